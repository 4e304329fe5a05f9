use Rattle.std.proofs.Common.{◌≡◌, take}
use Rattle.schemas.specs.Cutoff.{fields_by}
use Rattle.history_cut.proofs.kept.kept_fields.Given as goal

abbrev pub invariant-loop-field : goal.invariant-loop-field
invariant-loop-field l = l.kept ≡ fields_by (take l.field-index l.fields) l.o
