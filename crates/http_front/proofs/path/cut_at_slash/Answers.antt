use Rattle.http_front.proofs.PathLemmas.{before_slash, from_slash, without_slash}
use Rattle.http_front.proofs.path.cut_at_slash.Goals as goal

pub returns-in-Some-clause-plain : goal.returns-in-Some-clause-plain
returns-in-Some-clause-plain c = before_slash c.args.text.now c.split_at.result.0.now c.in-Some.at c.in-Some.ensures.place c.split_at.ensures.front

pub returns-in-Some-clause-ends : goal.returns-in-Some-clause-ends
returns-in-Some-clause-ends c = from_slash c.args.text.now c.split_at.result.1.now c.in-Some.at c.in-Some.ensures.place c.split_at.ensures.back

pub returns-in-None-clause-plain : goal.returns-in-None-clause-plain
returns-in-None-clause-plain c = without_slash c.args.text.now c.in-None.ensures.place
