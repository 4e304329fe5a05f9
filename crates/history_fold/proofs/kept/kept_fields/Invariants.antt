use Rattle.std.proofs.Common.{◌≡◌, take}
use Rattle.history_fold.proofs.kept.kept_fields.Given as goal

abbrev pub invariant-loop-field : goal.invariant-loop-field
invariant-loop-field l = l.kept ≡ take l.field-index l.fields
