use Rattle.pos_file.proofs.CourseLemmas.{left}
use Rattle.pos_file.proofs.courses.a_course_leaves.Goals as goal

pub returns : goal.returns
returns g = left
