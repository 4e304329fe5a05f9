use Rattle.served_steps.proofs.StandLemmas.{stand_fitting}
use Rattle.served_steps.proofs.law.standing_objects_fit.Goals as goal

pub returns : goal.returns
returns c = stand_fitting c.args.view.now.versions c.release_reads_own.ensures.fitting
