use Rattle.std.proofs.Common.{◌≡◌}
use Rattle.std.specs.Prelude.{option_and_then}
use Rattle.std.specs.Option.{option_copied}
use Rattle.request_target.specs.Queries.{unsupported}
use Rattle.request_target.proofs.QueryLemmas.{left_of}
use Rattle.request_target.proofs.query.unsupported.Given as goal

abbrev pub invariant-loop-left : goal.invariant-loop-left
invariant-loop-left l = option_and_then unsupported (option_copied l.left) ≡ unsupported l.query

abbrev pub decreases-loop-left : goal.decreases-loop-left
decreases-loop-left l = left_of (option_copied l.left)
