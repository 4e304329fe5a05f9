use Rattle.history_rules.proofs.DateLemmas.{taken_in, passed_over, on_ok}
use Rattle.std.proofs.Common.{rules}
use Rattle.history_rules.proofs.dates.Event.take_in.Goals as goal

pub returns-then-is_of : goal.returns-then-is_of
returns-then-is_of c = on_ok c.put_earlier.result (taken_in c.args.self c.args.entry.now c.args.dates.now c.put_earlier.new.dates (c.is_of.ensures.0 c.if-is_of.true)) c.put_earlier.ensures

pub returns-else-is_of : goal.returns-else-is_of
returns-else-is_of c = passed_over c.args.self c.args.entry.now c.args.dates.now (search rules)
