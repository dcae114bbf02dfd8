use Rattle.pos_file.proofs.CourseLemmas.{joined, parted}
use Rattle.pos_file.proofs.courses.a_course_goes_on.Goals as goal

pub returns-clause-joined : goal.returns-clause-joined
returns-clause-joined g = joined

pub returns-clause-parted : goal.returns-clause-parted
returns-clause-parted g = parted
