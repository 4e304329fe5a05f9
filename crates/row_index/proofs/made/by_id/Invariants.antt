use Rattle.std.proofs.Common.{take}
use Rattle.listing.specs.Listing.{lent}
use Rattle.row_index.specs.Made.{HoldsById}
use Rattle.row_index.proofs.made.by_id.Given as goal

abbrev pub invariant-loop-field : goal.invariant-loop-field
invariant-loop-field l = HoldsById (lent (take l.field-index l.fields)) l.held
