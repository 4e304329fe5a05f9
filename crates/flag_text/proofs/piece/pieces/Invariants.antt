use Rattle.std.proofs.Common.{◌≡◌, ◌==◌, map, take}
use Rattle.std.specs.List.{slice_split}
use Rattle.flag_text.specs.Pieces.{trimmed, pieces_of}
use Rattle.flag_text.proofs.piece.pieces.Given as goal

abbrev pub invariant-loop-index : goal.invariant-loop-index
invariant-loop-index l = record {
  read : l.pieces.items ≡ pieces_of (map trimmed (take l.index (map (λ r. r.now) l.part-items)));
  whole : map (λ r. r.now) l.part-items ≡ slice_split (λ c. c == 44) l.text;
}
