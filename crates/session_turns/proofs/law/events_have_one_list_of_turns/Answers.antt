use Rattle.session_turns.proofs.OneListLemmas.{one_list, front_of_all}
use Rattle.session_turns.proofs.law.events_have_one_list_of_turns.Goals as goal

pub returns : goal.returns
returns c = record { one = one_list; front = front_of_all }
