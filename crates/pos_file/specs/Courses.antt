-- What the calls of a file make of a disk, taken as the crash model takes them (docs/proofs/crashes.md, "The model of a
-- disk").
use Rattle.std.specs.Prelude.{◌≡◌, ◌++◌, ℕ, List, [], ◌∷◌, Bool, true, false, length, Option, Some, None}
use Rattle.pos_disk.specs.Memory.{Memory, state_of, synced, written}
use Rattle.pos_disk.specs.State.{MayLeave, part}
use Rattle.pos_file.specs.Calls.{Call, is_whole}
use Rattle.pos_file.specs.declared.history.CallKind.{CallKind}
use Rattle.pos_file.specs.declared.history.CallKind.TheVariants.{Lock, Share, Measure, Read, Write, Sync}

-- bytes were put down within a range, which is loose now: these if all of them were taken, else any
abbrev pub PutsDown : Bool → ℕ → List ℕ → Memory → Memory → Type 0
PutsDown true at bytes old new = new ≡ written at bytes old
PutsDown false at bytes old new = (put : List ℕ) × (length put ≡ length bytes) × (new ≡ written at put old)

-- the bytes are those that are there, if all of them were read
abbrev pub Shows : Bool → ℕ → List ℕ → Memory → Type 0
Shows true at bytes now = bytes ≡ part at (length bytes) now.present.reading
Shows false at bytes now = Unit {0}

-- What one call makes of the disk in memory that stands for the file. A sync that failed settles nothing. A lock and a
-- measure leave the disk as it is.
abbrev pub KindMakes : CallKind → ℕ → List ℕ → Option ℕ → Memory → Memory → Type 0
KindMakes Lock at bytes answer old new = new ≡ old
KindMakes Share at bytes answer old new = new ≡ old
KindMakes Measure at bytes answer old new = new ≡ old
KindMakes Read at bytes answer old new = Shows (is_whole (length bytes) answer) at bytes old × (new ≡ old)
KindMakes Write at bytes answer old new = PutsDown (is_whole (length bytes) answer) at bytes old new
KindMakes Sync at bytes (Some n) old new = new ≡ synced old
KindMakes Sync at bytes None old new = new ≡ old

-- what a call makes of it
abbrev pub CallMakes : Call → Memory → Memory → Type 0
CallMakes call old new = KindMakes call.kind call.at call.bytes call.answer old new

-- a course of calls, one after another, makes this of it
abbrev pub CourseMakes : List Call → Memory → Memory → Type 0
CourseMakes [] old new = new ≡ old
CourseMakes (call ∷ calls) old new = (mid : Memory) × CallMakes call old mid × CourseMakes calls mid new

-- A crash at some moment of a course, from one disk to another, may leave these bytes.
pub record CourseLeaves (calls : List Call) (old new : Memory) (bytes : List ℕ) : Type 0 where
  pub done : List Call
  pub rest : List Call
  pub mid : Memory
  pub parts : calls ≡ done ++ rest
  pub before : CourseMakes done old mid
  pub after : CourseMakes rest mid new
  pub left : MayLeave (state_of mid) bytes

-- all bytes of each write of the course were taken
abbrev pub TakesAll : List Call → Type 0
TakesAll [] = Unit {0}
TakesAll (call ∷ calls) = (call.kind ≡ Write → is_whole (length call.bytes) call.answer ≡ true) × TakesAll calls
