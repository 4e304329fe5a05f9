use Rattle.std.specs.Prelude.{◌≤◌}
use Rattle.schemas.proofs.PlaceLemmas.{EachBelow}
use Rattle.history_rules.proofs.late.first_late.Given as goal

abbrev pub invariant-loop-i : goal.invariant-loop-i
invariant-loop-i g l = EachBelow (λ earlier x. g.E.Entry.since_of x ≤ l.last) l.entries l.i
