use Rattle.std.proofs.Common.{◌==◌}
use Rattle.request_target.proofs.QueryLemmas.{cut_some, cut_none}
use Rattle.request_target.proofs.query.cut_at.Goals as goal

pub returns-in-Some : goal.returns-in-Some
returns-in-Some c = cut_some (λ x. x == c.args.byte) c.args.text.now c.split_at.result.0.now c.split_at-in-Some.result.1.now c.in-Some.at c.in-Some.ensures.place c.split_at.ensures.front c.split_at-in-Some.ensures.back

pub returns-in-None : goal.returns-in-None
returns-in-None c = cut_none (λ x. x == c.args.byte) c.args.text.now c.in-None.ensures.place
