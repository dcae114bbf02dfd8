use Rattle.pos_file.proofs.CourseLemmas.{is_one}
use Rattle.pos_file.proofs.courses.a_course_is_one.Goals as goal

pub returns : goal.returns
returns g = is_one
