use Rattle.session_turns.proofs.CaughtLemmas.{takes_less}
use Rattle.session_turns.proofs.law.takings_end.Goals as goal

pub returns : goal.returns
returns c = takes_less
