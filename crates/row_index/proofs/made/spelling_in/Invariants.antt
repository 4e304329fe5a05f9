use Rattle.std.proofs.Common.{◌≡◌, take, None}
use Rattle.listing.specs.Listing.{lent}
use Rattle.row_index.specs.Made.{spelling_in}
use Rattle.row_index.proofs.made.spelling_in.Given as goal

abbrev pub invariant-loop-spell : goal.invariant-loop-spell
invariant-loop-spell l = spelling_in (lent (take l.spell-index l.spells)) l.field ≡ None
