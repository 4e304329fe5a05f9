use Rattle.session_course.proofs.CourseLemmas.{courses_are_one}
use Rattle.session_course.proofs.law.courses_are_joined.Goals as goal

pub returns : goal.returns
returns c start = courses_are_one c.D.Disk.clock c.D.Disk.may_leave c.D.Disk.beside
