use Rattle.std.proofs.Common.{◌≡◌, ◌+◌, ◌≤◌, length, take}
use Rattle.std.specs.List.{suffix_len}
use Rattle.flag_text.specs.Pieces.{is_blank}
use Rattle.flag_text.proofs.piece.trimmed_end.Given as goal

abbrev pub invariant-loop-to : goal.invariant-loop-to
invariant-loop-to l = (l.to ≤ length l.text) × (l.to + suffix_len is_blank l.text ≡ length l.text + suffix_len is_blank (take l.to l.text))

abbrev pub decreases-loop-to : goal.decreases-loop-to
decreases-loop-to l = l.to
