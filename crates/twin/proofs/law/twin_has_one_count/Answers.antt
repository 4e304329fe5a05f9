use Rattle.twin.proofs.OneLemmas.{run_one, twin_one}
use Rattle.twin.proofs.law.twin_has_one_count.Goals as goal

pub returns-clause-run : goal.returns-clause-run
returns-clause-run c = run_one c.args.accepted.now

pub returns-clause-twin : goal.returns-clause-twin
returns-clause-twin c = twin_one c.args.accepted.now
