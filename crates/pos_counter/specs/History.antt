-- The history of the totals' files in a run: the groups of changes that were put on their disk (chapter Hard Totals).
use Rattle.std.specs.Prelude.{ℕ, Bool, false, ◌&&◌, List, [], ◌∷◌, ◌++◌, Option, Some, None, Result, Ok, Err, bytes_eq}
use Rattle.std.specs.Prelude.{if◌then◌else◌}
use Rattle.std.specs.Cmp.Lexicographic.{pointwise}
use Rattle.pos_dir.specs.Changes.{outcome_of_all, and_then}
use Rattle.pos_dir.specs.declared.change.Change.{Change as FileChange}
use Rattle.pos_dir.specs.declared.fault.DirectoryFault.{DirectoryFault}
use Rattle.pos_dir.specs.declared.file.File.{File as PlainFile}
use Rattle.pos_dir.specs.declared.file.Limits.{Limits}
use Rattle.pos_image.specs.declared.layout.Layout.{Layout}
use Rattle.pos_service.specs.declared.answer.Answer.TheVariants as answer
use Rattle.pos_store.specs.Layouts.{limits_of}
use Rattle.pos_totals.specs.HardTotals.{Change, Mode, Off, Ready, Totals, changes_in, in_transaction, transaction_of}
use Rattle.pos_totals.specs.TotalsCalls.{FileCall, Commits, Makes, file_call}
use Rattle.pos_totals.specs.Groups.{group_of}
use Rattle.pos_totals.specs.Views.{plain}
use Rattle.pos_counter.specs.Machine.{Machine}
use Rattle.pos_counter.specs.Steps.{Request, CallOf, Response, Answered, Run}
use Rattle.pos_counter.specs.Totals.{put_at_once}

-- changes that are done together, as they were put on the disk
abbrev pub Group : Type 0
Group = List FileChange

-- The layout and the files for which the disk stood at the start, the settled groups in order, and the group in doubt.
-- A settled group was acknowledged to its caller or kept by a recovery. In a group in doubt, if there is one, the disk
-- failed, and no recovery has found files since.
pub record History : Type 0 where
  pub layout : Layout
  pub start : List PlainFile
  pub settled : List Group
  pub doubt : Option Group

-- the history at the start
abbrev pub begun : Layout → List PlainFile → History
begun layout files = record { layout = layout; start = files; settled = []; doubt = None }

-- no group, or one
abbrev pub listed : Option Group → List Group
listed None = []
listed (Some group) = group ∷ []

-- all groups of a history, in order
abbrev pub groups_in : History → List Group
groups_in history = history.settled ++ listed history.doubt

-- a history goes on: by one more settled group; by a group in doubt; without the group in doubt
abbrev pub with_settled : History → Group → History
with_settled history group = record history { settled = history.settled ++ group ∷ []; doubt = None }

abbrev pub with_doubt : History → Group → History
with_doubt history group = record history { doubt = Some group }

abbrev pub without_doubt : History → History
without_doubt history = record history { doubt = None }

-- the files after all groups in order, each whole, or the fault of the first change that isn't applicable within the
-- limits
abbrev pub after_groups : Limits → List PlainFile → List Group → Result (List PlainFile) DirectoryFault
after_groups limits files [] = Ok files
after_groups limits files (group ∷ groups) =
    and_then (outcome_of_all limits files group) (λ next. after_groups limits next groups)

-- the files after groups in order from the start of a history, within the limits of its layout
abbrev pub files_after : History → List Group → Result (List PlainFile) DirectoryFault
files_after history groups = after_groups (limits_of history.layout) history.start groups

-- the same name and the same bytes
abbrev pub is_same : PlainFile → PlainFile → Bool
is_same file other = bytes_eq file.name other.name && bytes_eq file.bytes other.bytes

-- these files were made, in this order
abbrev pub has_made : Result (List PlainFile) DirectoryFault → List PlainFile → Bool
has_made (Ok files) found = pointwise is_same files found
has_made (Err fault) found = false

-- a recovery keeps a group in doubt if the files that it finds are those after the group, otherwise it drops the group
abbrev pub decided : History → Option Group → List PlainFile → History
decided history None found = history
decided history (Some group) found =
    if has_made (files_after history (history.settled ++ group ∷ [])) found
    then with_settled history group else without_doubt history

-- what a step does to the files: a group is done and acknowledged, the disk fails in a group, a recovery finds files,
-- or none of these
pub data FilesEvent : Type 0 where
  GroupAccepted : Group → FilesEvent
  GroupInDoubt : Group → FilesEvent
  FilesFound : List PlainFile → FilesEvent
  NothingDone : FilesEvent

-- the history after that
abbrev pub told : History → FilesEvent → History
told history (GroupAccepted group) = with_settled history group
told history (GroupInDoubt group) = with_doubt history group
told history (FilesFound found) = decided history history.doubt found
told history NothingDone = history

-- the changes that a call of the control with a number puts on the disk: none if they are buffered
abbrev pub changes_asked : Totals → ℕ → FileCall → List Change
changes_asked totals number (Makes change) = put_at_once (in_transaction totals number) change
changes_asked totals number Commits = changes_in (transaction_of totals number)
changes_asked totals number other = []

-- the changes that a request asks of a machine to be done together
abbrev pub changes_of : Machine → Request → List Change
changes_of machine (CallOf number asked) = changes_asked machine.totals.totals number (file_call asked)
changes_of machine other = []

-- What follows from changes, a response and the modes before and after. Changes that are answered with success are a
-- group that is accepted. Changes in which the totals turn off are a group in which the disk fails. Totals that turn
-- ready find their files.
abbrev pub event_between : List Change → Mode → Response → Mode → FilesEvent
event_between (change ∷ changes) (Ready files sequence) (Answered (answer.Done given)) (Ready now next) =
    GroupAccepted (group_of files (change ∷ changes))
event_between (change ∷ changes) (Ready files sequence) response Off =
    GroupInDoubt (group_of files (change ∷ changes))
event_between changes Off response (Ready now sequence) = FilesFound (plain now)
event_between changes old response new = NothingDone

-- what a step does to the files
abbrev pub event_of : Machine → Request → Response → Machine → FilesEvent
event_of old request response new =
    event_between (changes_of old request) old.totals.totals.mode response new.totals.totals.mode

-- a history with one more step
abbrev pub history_with : History → Machine → Request → Response → Machine → History
history_with history old request response new = told history (event_of old request response new)

-- a history with all steps of a run
abbrev pub history_along : History → (old : Machine) (steps : List (Request × Response)) (new : Machine)
    → Run old steps new → History
history_along history old [] new run = history
history_along history old (step ∷ steps) new run =
    history_along (history_with history old step.0 step.1 run.0) run.0 steps new run.2

-- the history of a run of a machine whose disk stood for these files by a layout at its start
abbrev pub history_of : Layout → List PlainFile → (old : Machine) (steps : List (Request × Response)) (new : Machine)
    → Run old steps new → History
history_of layout start old steps new run = history_along (begun layout start) old steps new run
