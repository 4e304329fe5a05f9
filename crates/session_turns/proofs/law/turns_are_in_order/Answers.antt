use Rattle.session_turns.proofs.InOrderLemmas.{order_of_all}
use Rattle.session_turns.proofs.law.turns_are_in_order.Goals as goal

pub returns : goal.returns
returns c = order_of_all
