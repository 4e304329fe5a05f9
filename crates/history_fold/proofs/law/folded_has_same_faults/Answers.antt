use Rattle.history_fold.proofs.ConfigFaultLemmas.{faults_of_whole}
use Rattle.history_fold.proofs.law.folded_has_same_faults.Goals as goal

pub returns : goal.returns
returns c = faults_of_whole c.args.history.now c.args.o c.args.text.now
