-- What a prefix of a history is, and where in a run a crash leaves one.
use Rattle.std.specs.Prelude.{◌≡◌, ◌⊎◌, ◌++◌, ℕ, List, [], ◌∷◌, None, Ok, ⊤}
use Rattle.pos_dir.specs.declared.file.File.{File as PlainFile}
use Rattle.pos_image.specs.declared.layout.Layout.{Layout}
use Rattle.pos_image.specs.declared.layout.Layout.TheVariants.{Layout2}
use Rattle.pos_totals.specs.HardTotals.{Off}
use Rattle.pos_store.specs.Standing.{Standing, Unformatted, Damaged, Stands, StandsFor, IsOneOf}
use Rattle.pos_counter.specs.History.{Group, History, groups_in, files_after, history_with}
use Rattle.pos_counter.specs.Machine.{Machine}
use Rattle.pos_counter.specs.Steps.{Request, Response, Run}
use Rattle.pos_counter.specs.Totals.{TotalsPart}

-- the list begins with these
abbrev pub BeginsWith : List Group → List Group → Type 0
BeginsWith groups first = (rest : List Group) × (groups ≡ first ++ rest)

-- What is left are the files after a prefix of the history, by its layout: those at its start with the first of its
-- groups applied in order, each whole. The prefix begins with the groups that it has to hold.
pub record IsPrefix (history : History) (held : List Group) (left : Standing) : Type 0 where
  pub prefix : List Group
  pub first : BeginsWith (groups_in history) prefix
  pub holds : BeginsWith prefix held
  pub files : List PlainFile
  pub sequence : ℕ
  pub made : files_after history prefix ≡ Ok files
  pub stands : left ≡ Stands history.layout files sequence

-- The history of a disk that was moved to layout 2 when it had the files after these groups. They are settled, and none
-- is in doubt.
abbrev pub moved_with : History → List Group → History
moved_with history groups = record { layout = Layout2; start = history.start; settled = groups; doubt = None }

-- the prefix holds each settled group
abbrev pub IsPrefixOf : History → Standing → Type 0
IsPrefixOf history left = IsPrefix history history.settled left

-- it is a prefix of the history before a step or of the one after it, and holds each group that was settled before it
abbrev pub IsPrefixInside : History → History → Standing → Type 0
IsPrefixInside before after left = IsPrefix before before.settled left ⊎ IsPrefix after before.settled left

-- it is such a prefix at one of the steps of a run, or at its end, by the history before the run
abbrev pub IsPrefixAlong : History → (old : Machine) (steps : List (Request × Response)) (new : Machine)
    → Run old steps new → Standing → Type 0
IsPrefixAlong history old [] new run left = IsPrefixOf history left
IsPrefixAlong history old (step ∷ steps) new run left =
    let next = history_with history old step.0 step.1 run.0 in
    IsPrefixInside history next left ⊎ IsPrefixAlong next run.0 steps new run.2 left

-- all that a crash may leave now is such a prefix
abbrev pub LeavesPrefix : History → TotalsPart → Type 0
LeavesPrefix history totals = (left : Standing) → IsOneOf totals.left left → IsPrefixOf history left

-- all that a crash inside a step may leave is, by the histories and the totals before and after it
abbrev pub LeavesPrefixInside : History → TotalsPart → History → TotalsPart → Type 0
LeavesPrefixInside before old after new = (left : Standing) → IsOneOf old.left left ⊎ IsOneOf new.left left
    → IsPrefixInside before after left

-- it is files, and neither damage nor a disk without totals
abbrev pub IsFiles : Standing → Type 0
IsFiles Unformatted = ⊥
IsFiles Damaged = ⊥
IsFiles (Stands layout files sequence) = ⊤

-- The totals are off, and a crash leaves only what stands for these files by a layout.
pub record StartsWith (layout : Layout) (start : List PlainFile) (sequence : ℕ) (totals : TotalsPart) : Type 0 where
  pub off : totals.totals.mode ≡ Off
  pub left : totals.left ≡ Stands layout start sequence ∷ []

-- The bytes stand for something that has P.
pub record StandsForSome (P : Standing → Type 0) (bytes : List ℕ) : Type 0 where
  pub standing : Standing
  pub stands : StandsFor standing bytes
  pub has : P standing
