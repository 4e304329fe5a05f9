use Rattle.session_ends.proofs.DrawnLemmas.{takes_all, takes_script}
use Rattle.session_ends.proofs.law.ended_fronts_are_taken.Goals as goal

pub returns : goal.returns
returns c = record { all = takes_all; script = takes_script }
