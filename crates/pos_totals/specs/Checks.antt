-- What the checks of a call find, before anything is done.
use Rattle.std.specs.Prelude.{◌≡◌, ◌⊎◌, ◌≤◌, ◌+◌, ℕ, ℤ, pos, Bool, true, false, List, [], ◌∷◌, length, Option, Some}
use Rattle.std.specs.Prelude.{None, IfSome, MatchResult, Result, Ok, Err, ⊤}
use Rattle.std.specs.List.{find}
use Rattle.std.specs.Option.{option_map}
use Rattle.pos_dir.specs.Changes.{flaw_of}
use Rattle.pos_dir.specs.Files.{IsDirectory}
use Rattle.pos_dir.specs.declared.change.Change.{Change as FileChange}
use Rattle.pos_dir.specs.declared.file.TheConstants.{LAYOUT_2}
use Rattle.pos_service.specs.declared.answer.Answer.{Answer}
use Rattle.pos_service.specs.declared.answer.Answer.TheVariants as answer
use Rattle.pos_service.specs.declared.code.Code.TheVariants as code
use Rattle.pos_service.specs.declared.faults.NoMemory.{NoMemory}
use Rattle.pos_service.specs.Claims.{is_foreign}
use Rattle.pos_totals.specs.HardTotals.{File, Mode, Off, Ready, Totals, Change, Create, Delete, Rename, Edit}
use Rattle.pos_totals.specs.HardTotals.{TotalsLimits, totals_limits, transaction_of, files_of}
use Rattle.pos_totals.specs.TotalsChanges.{change_rows, refusals_of_change, spent_by}
use Rattle.pos_totals.specs.TotalsArrangements.{Arrangement, arrangement_rows, refusals_of_arrangement}
use Rattle.pos_totals.specs.TotalsCommits.{refusals_of_commit}
use Rattle.pos_totals.specs.TotalsQuestions.{Question, question_rows, told_of, is_told_in_memory}
use Rattle.pos_service.specs.Refusals.{Row, first_refusal, Decided}
use Rattle.pos_disk.specs.declared.device.Disk.{Ghosts}
use Rattle.pos_store.specs.Commits.{Commits}
use Rattle.pos_store.specs.Layouts.{limits_of}
use Rattle.pos_store.specs.StoreViews.{StoreView}
use Rattle.pos_store.specs.declared.fault.StoreFault.{StoreFault}
use Rattle.pos_store.specs.declared.fault.StoreFault.TheVariants as fault
use Rattle.pos_totals.specs.Buffers.{IsAsked}
use Rattle.pos_totals.specs.Edits.{edit_of}
use Rattle.pos_totals.specs.Groups.{index_of, file_change, group_of}
use Rattle.pos_totals.specs.Views.{with_tags}
use Rattle.pos_totals.specs.declared.commits.Commitment.{Commitment}
use Rattle.pos_totals.specs.declared.commits.Commitment.TheVariants as commitment
use Rattle.pos_totals.specs.declared.commits.Plan.{Plan}
use Rattle.pos_totals.specs.declared.commits.Plan.TheVariants as plan
use Rattle.pos_totals.specs.declared.files.Files.{Files}
use Rattle.pos_totals.specs.declared.files.FoundFile.{FoundFile}
use Rattle.pos_totals.specs.declared.update.Caller.{Caller}
use Rattle.pos_totals.specs.declared.update.TotalsUpdate.{TotalsUpdate}
use Rattle.pos_totals.specs.declared.update.TotalsUpdate.TheVariants as update
use Rattle.pos_totals.specs.declared.update.CheckedUpdate.{CheckedUpdate}

-- the change that a request asks for
abbrev pub change_of : TotalsUpdate → Change
change_of (update.Create name size) = Create name.now size
change_of (update.Delete name) = Delete name.now
change_of (update.Rename handle name) = Rename handle name.now
change_of (update.Edit handle edit) = Edit handle (edit_of edit)

-- the files with their tags
abbrev pub files_in : Files → List File
files_in files = with_tags files.tags.now files.directory.now.files

-- the limits of the totals, which go by the layout of their disk
abbrev pub limits_in : Files → TotalsLimits
limits_in files = totals_limits files.layout

-- The files are those of a directory within the limits of the layout, and each has a tag.
pub record AreFiles (files : Files) : Type 0 where
  pub directory : IsDirectory (limits_of files.layout) files.directory.now.files
  pub paired : length files.tags.now ≡ length files.directory.now.files

-- what is seen of the files: none while they aren't known
abbrev pub IsSeen : Mode → Option (List File) → Type 0
IsSeen Off None = ⊤
IsSeen Off (Some seen) = ⊥
IsSeen (Ready files sequence) None = ⊥
IsSeen (Ready files sequence) (Some seen) = seen ≡ files

-- A range of bytes within a size, by the numbers of a call.
pub record IsRange (size : ℕ) (offset count : ℤ) (from many : ℕ) : Type 0 where
  pub first : offset ≡ pos from
  pub number : count ≡ pos many
  pub inside : from + many ≤ size

-- a file that was found
abbrev pub file_of : FoundFile → File
file_of found = record { handle = found.handle; name = found.name.now; bytes = found.bytes.now; claim = found.claim }

-- A search finds the first file that meets a test, and its index. No disk has a larger file than layout 2 allows.
pub record FindsFile (test : File → Bool) (files : List File) (found : Option FoundFile) : Type 0 where
  pub file : option_map file_of found ≡ find test files
  pub index : IfSome found (λ f. f.index ≡ index_of test files)
  pub small : IfSome found (λ f. length f.bytes.now ≤ LAYOUT_2.bytes)

-- a question about files that are known is answered by its table, and then by its value; memory runs out only after the
-- table
abbrev pub AnswersIn : List File → ℕ → Question → Answer → Type 0
AnswersIn files control question result =
    Decided (question_rows files control question) result (Unit {0}) (result ≡ answer.Done (told_of files question))

abbrev pub MayTellIn : List File → ℕ → Question → Result Answer NoMemory → Type 0
MayTellIn files control question outcome =
    MatchResult outcome (λ result. AnswersIn files control question result)
    (λ want. (is_told_in_memory question ≡ true) × (first_refusal (question_rows files control question) ≡ None))

-- Nothing refuses the change, and a group takes it.
pub record Passes (limits : TotalsLimits) (files : List File) (control : ℕ) (spent : Option ℕ) (change : Change)
    (checked : CheckedUpdate) : Type 0 where
  pub unrefused : first_refusal (change_rows limits files control spent change) ≡ None
  pub made : file_change files change ≡ checked.change
  pub flawless : flaw_of checked.change ≡ None
  pub asked : IsAsked change checked.handle checked.change

-- what a check of a change by its table finds
abbrev pub Checks : TotalsLimits → List File → Caller → Change → Result CheckedUpdate Answer → Type 0
Checks limits files caller change (Ok made) = Passes limits files caller.control caller.spent change made
Checks limits files caller change (Err refusal) =
    first_refusal (change_rows limits files caller.control caller.spent change) ≡ Some refusal

-- nothing refuses the change of totals that are off, or ready
abbrev pub PassesIn : TotalsLimits → Mode → ℕ → Option ℕ → Change → CheckedUpdate → Type 0
PassesIn limits Off control spent change made = ⊥
PassesIn limits (Ready files sequence) control spent change made = Passes limits files control spent change made

-- what a check of a change finds
abbrev pub ChecksAt : Totals → ℕ → Change → Result CheckedUpdate Answer → Type 0
ChecksAt totals control change (Ok made) =
    (is_foreign control totals.area ≡ false)
    × PassesIn (totals_limits totals.layout) totals.mode control (spent_by totals control) change made
ChecksAt totals control change (Err refusal) =
    first_refusal (refusals_of_change totals control change) ≡ Some refusal

-- what a check of an arrangement of a file by its table finds: the handle, if nothing refuses it
abbrev pub LetsThrough : Option ℕ → Option (Option (List Change)) → List File → ℕ → Arrangement → ℤ
    → Result ℕ Answer → Type 0
LetsThrough area place files control arrangement handle (Ok number) =
    (first_refusal (arrangement_rows area place files control arrangement) ≡ None) × (handle ≡ pos number)
LetsThrough area place files control arrangement handle (Err refusal) =
    first_refusal (arrangement_rows area place files control arrangement) ≡ Some refusal

abbrev pub LetsThroughAt : Totals → ℕ → Arrangement → ℤ → Result ℕ Answer → Type 0
LetsThroughAt totals control arrangement handle (Ok number) =
    (first_refusal (refusals_of_arrangement totals control arrangement) ≡ None) × (handle ≡ pos number)
LetsThroughAt totals control arrangement handle (Err refusal) =
    first_refusal (refusals_of_arrangement totals control arrangement) ≡ Some refusal

-- A group was made of what is buffered, which isn't nothing.
pub record Gathers (files : List File) (transaction : Option (List Change)) (group : List FileChange) : Type 0 where
  pub first : Change
  pub others : List Change
  pub buffered : transaction ≡ Some (first ∷ others)
  pub made : group ≡ group_of files (first ∷ others)

-- what is to be done for a commit, by its table; memory runs out only after it
abbrev pub Plans : List Row → List File → Option (List Change) → Result Plan NoMemory → Type 0
Plans rows files transaction (Ok (plan.Refused refusal)) = first_refusal rows ≡ Some refusal
Plans rows files transaction (Ok plan.Nothing) = (first_refusal rows ≡ None) × (transaction ≡ Some [])
Plans rows files transaction (Ok (plan.Group group)) = (first_refusal rows ≡ None) × Gathers files transaction group
Plans rows files transaction (Err want) = first_refusal rows ≡ None

abbrev pub PlansAt : Totals → ℕ → Result Plan NoMemory → Type 0
PlansAt totals control result =
    Plans (refusals_of_commit totals control) (files_of totals.mode) (transaction_of totals control) result

-- A group was made of what is buffered, which isn't nothing, and the store has answered it.
pub record PutsBuffer {D : Type 0} (bound : Ghosts D) (old : StoreView D) (files : List File)
    (transaction : Option (List Change)) (result : Result (Unit {0}) StoreFault) (new : StoreView D) : Type 0 where
  pub group : List FileChange
  pub gathered : Gathers files transaction group
  pub commits : Commits bound old group result new

-- nothing is buffered, and the store is as it was; or a group was made of what is buffered, and is on the disk
abbrev pub EndsBuffer : {D : Type 0} → Ghosts D → StoreView D → List File → Option (List Change) → StoreView D → Type 0
EndsBuffer bound old files transaction new =
    ((transaction ≡ Some []) × (new ≡ old)) ⊎ PutsBuffer bound old files transaction (Ok tt) new

-- what becomes of a commit, by its table, and then by the store
abbrev pub CommitsAt : {D : Type 0} → Ghosts D → StoreView D → Totals → ℕ → Result Commitment NoMemory
    → StoreView D → Type 0
CommitsAt bound old totals control (Ok (commitment.Refused refusal)) new =
    (first_refusal (refusals_of_commit totals control) ≡ Some refusal) × (new ≡ old)
CommitsAt bound old totals control (Ok commitment.Done) new =
    (first_refusal (refusals_of_commit totals control) ≡ None)
    × EndsBuffer bound old (files_of totals.mode) (transaction_of totals control) new
CommitsAt bound old totals control (Ok (commitment.Failed cause)) new =
    (first_refusal (refusals_of_commit totals control) ≡ None)
    × PutsBuffer bound old (files_of totals.mode) (transaction_of totals control) (Err cause) new
CommitsAt bound old totals control (Err want) new =
    (first_refusal (refusals_of_commit totals control) ≡ None) × (new ≡ old)

-- what a change is answered that the store refuses
abbrev pub answer_of : StoreFault → Result Answer NoMemory
answer_of fault.NoMemory = Err (record {})
answer_of fault.Off = Ok (answer.Refused code.Failure 0)
answer_of (fault.Refused cause) = Ok (answer.Refused code.Failure 0)
answer_of fault.Exhausted = Ok (answer.Refused code.Failure 0)
answer_of fault.Unformatted = Ok (answer.Refused code.Failure 0)
answer_of fault.Damaged = Ok (answer.Refused code.Failure 0)
answer_of fault.Device = Ok (answer.Refused code.Failure 0)
answer_of fault.AlreadyLayout2 = Ok (answer.Refused code.Failure 0)
