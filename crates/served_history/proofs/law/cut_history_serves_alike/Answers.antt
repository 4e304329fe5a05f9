use Rattle.served_history.proofs.AlikeLemmas.{serves_alike, viewed_alike}
use Rattle.served_history.proofs.law.cut_history_serves_alike.Goals as goal

pub returns-clause-views : goal.returns-clause-views
returns-clause-views c = viewed_alike c.args.history.now

pub returns-clause-serves : goal.returns-clause-serves
returns-clause-serves c = serves_alike c.args.history.now
