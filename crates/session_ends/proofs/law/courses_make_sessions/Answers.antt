use Rattle.session_ends.proofs.EndLemmas.{serves_by}
use Rattle.session_ends.proofs.law.courses_make_sessions.Goals as goal

pub returns : goal.returns
returns g c = serves_by g.D.Disk.clock g.D.Disk.may_leave g.D.Disk.beside
