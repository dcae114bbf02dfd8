-- What the file below a mirror was asked, taken as the crash model takes it (docs/proofs/crashes.md, "The model of a
-- disk").
use Rattle.std.specs.Prelude.{◌≡◌, ◌++◌, ◌∷◌, ℕ, List, Some, false, length}
use Rattle.pos_disk.specs.Memory.{Memory, fresh}
use Rattle.pos_file.specs.Calls.{Call, read_call}
use Rattle.pos_file.specs.Courses.{CourseLeaves}
use Rattle.pos_file.specs.Follows.{Follows}
use Rattle.pos_file.specs.declared.file_disk.FileDisk.{FileDisk}
use Rattle.pos_mirror.specs.Continuations.{Continues}
use Rattle.pos_mirror.specs.Mirror.{Mirror}

-- these calls, and then a read from the start on that gave all these bytes, and more
abbrev pub HasRead : List Call → List ℕ → List Call → Type 0
HasRead before bytes calls = (more : List Call) × (calls ≡ before ++ read_call 0 bytes (Some (length bytes)) ∷ more)

-- The calls of the file since the mirror read it make the disk that the mirror shows. A lost mirror may have taken
-- writes since, of which the file was asked nothing.
pub record IsMirrored {F : Type 0} (calls : F → List Call) (mirror : Mirror (FileDisk F)) : Type 0 where
  -- what the file was asked before, and the bytes that were read then
  pub before : List Call
  pub bytes : List ℕ
  pub read : HasRead before bytes (calls mirror.below.file)
  -- the disk that its calls since then make
  pub asked : Memory
  pub follows : Follows calls before (fresh bytes) mirror.below.file asked
  pub same : mirror.lost ≡ false → mirror.memory ≡ asked
  pub continues : Continues asked mirror.memory

-- A power cut at some moment since the mirror read the file may leave these bytes of it, if the file keeps the crash
-- model.
abbrev pub CutMayLeave : {F : Type 0} {calls : F → List Call} {mirror : Mirror (FileDisk F)} → IsMirrored calls mirror
    → List ℕ → Type 0
CutMayLeave is bytes = CourseLeaves is.follows.since (fresh is.bytes) is.asked bytes
