use Rattle.std.proofs.Common.{◌≡◌, ◌++◌}
use Rattle.std.specs.BTreeMap.{values}
use Rattle.listing.specs.Listing.{lent}
use Rattle.row_index.specs.Made.{rows_in}
use Rattle.row_index.proofs.made.rows_in.Given as goal

abbrev pub invariant-loop-field : goal.invariant-loop-field
invariant-loop-field l = l.rows ++ rows_in l.gates (lent l.spells) l.field-iterator ≡ rows_in l.gates (lent l.spells) (values l.fields)
