use Rattle.release_view.specs.Served.{served_of}
use Rattle.discovery.proofs.ServedLemmas.{groups_rise}
use Rattle.discovery.proofs.ListedLemmas.{are_listed}
use Rattle.discovery.proofs.law.groups_are_exact.Goals as goal

pub returns : goal.returns
returns c = are_listed (served_of c.args.view.now.versions) (groups_rise c.args.view.now.versions c.served-served.ensures.order)
