use Rattle.std.proofs.Common.{◌≡◌, length, take, drop, reverse, vec_len}
use Rattle.flag_text.specs.Pieces.{last_pieces}
use Rattle.flag_text.specs.Said.{HasSaid}
use Rattle.flag_text.proofs.last.last_pieces.Given as goal

abbrev pub invariant-loop-piece : goal.invariant-loop-piece
invariant-loop-piece l = record {
  left : l.pieces.items ≡ take (length l.pieces.items) l.initial.pieces.items;
  order : reverse l.last.items ≡ last_pieces (drop (length l.pieces.items) l.initial.pieces.items);
  booleans : HasSaid l.words (drop (length l.pieces.items) l.initial.pieces.items) l.booleans;
}

abbrev pub decreases-loop-piece : goal.decreases-loop-piece
decreases-loop-piece l = vec_len l.pieces
