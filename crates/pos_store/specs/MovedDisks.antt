-- What moving the files of a disk to layout 2 answers, and what it leaves (docs/reference/totals-file.md, "The move to
-- layout 2").
use Rattle.std.specs.Prelude.{ℕ, List, [], ◌∷◌, map, Result, Ok, Err}
use Rattle.pos_dir.specs.declared.file.File.{File}
use Rattle.pos_disk.specs.State.{DiskState, IsAtRest, LeavesOnly, MayLeave, Rises, Watches}
use Rattle.pos_image.specs.declared.layout.Layout.TheVariants.{Layout1, Layout2}
use Rattle.pos_store.specs.Standing.{Standing, Unformatted, Damaged, Stands, IsOneOf, LeavesOneOf, StandsForEither}
use Rattle.pos_store.specs.declared.fault.StoreFault.{StoreFault}
use Rattle.pos_store.specs.declared.fault.StoreFault.TheVariants as fault

-- what bytes stand for after their files were moved: the same files by layout 2, with sequence 1
abbrev pub moved : Standing → Standing
moved (Stands layout files sequence) = Stands Layout2 files 1
moved other = other

-- Files that were found by layout 1 are on the disk by layout 2, which is at rest, and a crash leaves them alone.
pub record AreMoved (candidates : List Standing) (new : DiskState) : Type 0 where
  pub files : List File
  pub sequence : ℕ
  pub found : IsOneOf candidates (Stands Layout1 files sequence)
  pub at_rest : IsAtRest new
  pub now : LeavesOneOf (Stands Layout2 files 1 ∷ []) new

-- Files were found by layout 2.
pub record AreThere (candidates : List Standing) : Type 0 where
  pub files : List File
  pub sequence : ℕ
  pub found : IsOneOf candidates (Stands Layout2 files sequence)

-- the disk was only looked at: its bytes are what they were, no place became loose, and a crash at any moment leaves
-- what one before might have left, now one of the candidates
abbrev pub IsLeft : List Standing → DiskState → DiskState → Type 0
IsLeft candidates old new = Watches old new × LeavesOneOf candidates new

-- what is answered, of a disk that may leave one of the candidates, and the disk then
abbrev pub AnswersMove : List Standing → DiskState → Result (Unit {0}) StoreFault → DiskState → Type 0
AnswersMove candidates old (Ok _) new = AreMoved candidates new
AnswersMove candidates old (Err fault.AlreadyLayout2) new = AreThere candidates × IsLeft candidates old new
AnswersMove candidates old (Err fault.Unformatted) new = IsOneOf candidates Unformatted × IsLeft candidates old new
AnswersMove candidates old (Err fault.Damaged) new = IsOneOf candidates Damaged × IsLeft candidates old new
AnswersMove candidates old (Err fault.NoMemory) new = IsLeft candidates old new
AnswersMove candidates old (Err fault.Device) new = Rises old.failures new.failures
AnswersMove candidates old (Err other) new = ⊥

-- A disk that may leave one of the candidates is moved. A crash at any moment leaves one of them, or one with its files
-- moved, and so does a crash then.
pub record MovesOneOf (candidates : List Standing) (old new : DiskState) (result : Result (Unit {0}) StoreFault)
    : Type 0 where
  pub answer : AnswersMove candidates old result new
  pub any_moment : LeavesOnly old new (StandsForEither candidates (map moved candidates))
  pub now : (bytes : List ℕ) → MayLeave new bytes → StandsForEither candidates (map moved candidates) bytes

-- whatever candidates the disk leaves
abbrev pub MovesAny : DiskState → DiskState → Result (Unit {0}) StoreFault → Type 0
MovesAny old new result =
    (candidates : List Standing) → LeavesOneOf candidates old → MovesOneOf candidates old new result
