use Rattle.session_ends.proofs.PieceLemmas.{turns_of_all, turns_of_some}
use Rattle.session_ends.proofs.law.pieces_have_their_turns.Goals as goal

pub returns : goal.returns
returns c = record { all = turns_of_all; first = turns_of_some }
