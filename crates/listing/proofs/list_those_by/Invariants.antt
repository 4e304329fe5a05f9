use Rattle.std.proofs.Common.{Bool, take}
use Rattle.std.specs.Prelude.{filter}
use Rattle.listing.specs.Listing.{Name, Names, Tells, IsListing}
use Rattle.listing.proofs.list_those_by.Given as goal

abbrev pub invariant-loop-entry : goal.invariant-loop-entry
invariant-loop-entry g l = (test : g.row.E.Denot → Bool) (named : g.row.E.Denot → Name) → Tells (goal.K-post g l.kept) test → Names (goal.F-post g l.name) named → IsListing named (filter test (take l.entry-index l.entries)) l.listing
