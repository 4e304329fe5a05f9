use Rattle.storage_version.proofs.BackLemmas.{make_one_history}
use Rattle.storage_version.proofs.law.views_are_of_one_history.Goals as goal

pub returns : goal.returns
returns c = make_one_history c.args.a.now c.history-history.ensures.accepted c.args.back.now c.args.view.now
