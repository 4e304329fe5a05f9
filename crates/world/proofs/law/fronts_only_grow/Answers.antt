use Rattle.world.proofs.GrowthLemmas.{grows_by_nothing, grows_in_turn, grows_by_taking, grows_by_failing, grows_by_room, grows_by_sending}
use Rattle.world.proofs.law.fronts_only_grow.Goals as goal

pub returns : goal.returns
returns c = record {
  nothing = grows_by_nothing;
  in_turn = grows_in_turn;
  taking = grows_by_taking;
  failing = grows_by_failing;
  room = grows_by_room;
  sending = grows_by_sending;
}
