use Rattle.storage_version.proofs.StandingLemmas.{one_standing}
use Rattle.storage_version.proofs.law.records_stand_for_one_state.Goals as goal

pub returns : goal.returns
returns c = λ items revision state other p q. one_standing items revision c.args.view.now.versions state other p q
