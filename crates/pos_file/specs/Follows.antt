-- How a disk in a file follows what its file was asked.
use Rattle.std.specs.Prelude.{◌≡◌, ◌++◌, List}
use Rattle.pos_disk.specs.Memory.{Memory}
use Rattle.pos_file.specs.Calls.{Call}
use Rattle.pos_file.specs.Courses.{CourseMakes}

-- What a file was asked since these calls makes this of the disk that stood for it then.
pub record Follows {F : Type 0} (calls : F → List Call) (before : List Call) (start : Memory) (file : F) (now : Memory)
    : Type 0 where
  pub since : List Call
  pub asked : calls file ≡ before ++ since
  pub course : CourseMakes since start now
