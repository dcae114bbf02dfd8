-- Hard Totals in the device machine (chapter Hard Totals).
use Rattle.std.specs.Prelude.{Bool, IsTrue, List, MatchResult, None, Option, Result, Some, [], false, if◌then◌else◌}
use Rattle.std.specs.Prelude.{length, not, true, ℕ, ◌&&◌, ◌∷◌, ◌≡◌, ◌≤◌, ◌⊎◌}
use Rattle.pos_disk.specs.State.{Rises}
use Rattle.pos_image.specs.declared.layout.Layout.{Layout}
use Rattle.pos_service.specs.declared.answer.Answer.{Answer}
use Rattle.pos_service.specs.declared.answer.Answer.TheVariants as answer
use Rattle.pos_service.specs.declared.answer.Value.{Value}
use Rattle.pos_service.specs.declared.answer.Value.TheVariants as value
use Rattle.pos_service.specs.declared.call.Call.{Call}
use Rattle.pos_service.specs.declared.faults.NoMemory.{NoMemory}
use Rattle.pos_service.specs.declared.code.Code.TheVariants as code
use Rattle.pos_service.specs.declared.context.FilesSummary.{FilesSummary}
use Rattle.pos_service.specs.declared.context.OpenDevice.{OpenDevice}
use Rattle.pos_service.specs.declared.context.OpenDevice.TheVariants as open_device
use Rattle.pos_service.specs.declared.property.Property.{Property}
use Rattle.pos_service.specs.declared.property.Property.TheVariants as property
use Rattle.pos_service.specs.Controls.{Control}
use Rattle.pos_totals.specs.HardTotals.{Change, Mode, Off, Ready, Totals, files_of, is_ready, totals_limits}
use Rattle.pos_totals.specs.TotalsFiles.{free_data}
use Rattle.pos_totals.specs.TotalsQuestions.{told_of}
use Rattle.pos_totals.specs.TotalsChanges.{DoesChange}
use Rattle.pos_totals.specs.TotalsCommits.{DoesCommit}
use Rattle.pos_totals.specs.HardTotals.{changes_in, in_transaction, transaction_of, with_transaction}
use Rattle.pos_totals.specs.TotalsArrangements.{after_arrangement}
use Rattle.pos_service.specs.Calls.{takes_memory}
use Rattle.pos_service.specs.Refusals.{Decided, first_refusal}
use Rattle.pos_totals.specs.TotalsCalls.{Arranges, Asks, Commits, FileCall, Makes, Nothing, file_call, file_rows}
use Rattle.pos_store.specs.Standing.{Damaged, IsOneOf, Standing, Unformatted}
pub use Rattle.pos_totals.specs.Changes.{settled}
use Rattle.pos_totals.specs.Changes.{IsOneGroup, left_after as left_after_group}
use Rattle.pos_totals.specs.Recoveries.{HasFound, HasTooMany}
use Rattle.pos_totals.specs.Views.{TurnsOff}

-- The totals: what is known of them, what the bytes that a crash leaves now may stand for, and how often their disk has
-- failed.
pub record TotalsPart : Type 0 where
  pub totals : Totals
  pub left : List Standing
  pub failures : ℕ

-- what is known of the files, from which properties are read
abbrev pub files_summary : Layout → Mode → Option FilesSummary
files_summary layout Off = None
files_summary layout (Ready files sequence) =
    Some (record { free = free_data (totals_limits layout) files; count = length files })

-- what a crash leaves after changes were put on the disk as one group, by the mode then
abbrev pub left_after : TotalsPart → List Change → Mode → List Standing
left_after old changes now = left_after_group old.totals old.left changes now

-- the disk fails only if that turns the totals off, otherwise the count of its failures is as it was
abbrev pub FailsTurningOff : TotalsPart → TotalsPart → Type 0
FailsTurningOff old new = TurnsOff old.totals.mode new.totals.mode ⊎ (new.failures ≡ old.failures)

-- Changes are put on the disk as one group, or the disk fails in them, and this is what a crash leaves then. Without
-- changes the disk isn't touched.
pub record PutsChanges (Does : Answer → Totals → Type 0) (old : TotalsPart) (changes : List Change) (result : Answer)
    (new : TotalsPart) : Type 0 where
  pub does : Does result new.totals
  pub group : IsOneGroup old.totals changes
  pub left : new.left ≡ left_after old changes new.totals.mode
  pub counts : FailsTurningOff old new
  pub later : old.failures ≤ new.failures

-- the changes that a change puts on the disk: none in a transaction, which buffers it
abbrev pub put_at_once : Bool → Change → List Change
put_at_once in_transaction change = if in_transaction then [] else change ∷ []

-- A change is buffered, or refused if a handle or the sequences have run out, or is done as one group, or the disk
-- fails in it.
abbrev pub ChangesTotals : TotalsPart → ℕ → Change → Answer → TotalsPart → Type 0
ChangesTotals old number change result new =
    let fails = Rises old.failures new.failures in
    PutsChanges (λ answer totals. DoesChange fails old.totals number change answer totals) old
    (put_at_once (in_transaction old.totals number) change) result new

-- A commit is refused if the sequences have run out, or what was buffered is done as one group, or the disk fails in
-- it.
abbrev pub CommitsTotals : TotalsPart → ℕ → Answer → TotalsPart → Type 0
CommitsTotals old number result new =
    let changes = changes_in (transaction_of old.totals number) in
    let ended = with_transaction old.totals number None in
    let fails = Rises old.failures new.failures in
    PutsChanges (λ answer totals. DoesCommit fails old.totals ended changes answer totals) old changes result new

-- what each call does with the totals, if nothing refuses it
abbrev pub TotalsDo : FileCall → TotalsPart → ℕ → Answer → TotalsPart → Type 0
TotalsDo (Asks question) old number result new =
    (result ≡ answer.Done (told_of (files_of old.totals.mode) question)) × (new ≡ old)
TotalsDo (Makes change) old number result new = ChangesTotals old number change result new
TotalsDo (Arranges arrangement) old number result new =
    (result ≡ answer.Done value.Empty)
    × (new ≡ record old { totals = after_arrangement old.totals number arrangement })
TotalsDo Commits old number result new = CommitsTotals old number result new
TotalsDo Nothing old number result new = ⊥

-- A call of the totals' own on an enabled control: by what the totals refuse, and then by what it does. Want of memory
-- comes only from a call that takes some, and changes nothing.
abbrev pub FilesCalled : ℕ → Call → TotalsPart → Result Answer NoMemory → TotalsPart → Type 0
FilesCalled number asked old outcome new =
    let rows = file_rows old.totals number (file_call asked) in MatchResult outcome
    (λ result. Decided rows result (new ≡ old) (TotalsDo (file_call asked) old number result new))
    (λ want. IsTrue (takes_memory asked) × (first_refusal rows ≡ None) × (new ≡ old))

-- One of the standings was found, and a crash leaves only that from then on. The disk hasn't failed.
pub record Recovered (old new : TotalsPart) : Type 0 where
  pub found : HasFound (IsOneOf old.left) old.totals new.totals
  pub left : new.left ≡ settled new.totals.layout new.totals.mode old.left
  pub counts : new.failures ≡ old.failures

-- The disk failed in a recovery: the count of its failures rose, and all else is as it was.
pub record DiskFails (old new : TotalsPart) : Type 0 where
  pub rises : Rises old.failures new.failures
  pub later : old.failures ≤ new.failures
  pub else_same : new ≡ record old { failures = new.failures }

-- a recovery fails with E_FAILURE: by damage or by too few handles, which leaves all as it was, or because the disk
-- failed
abbrev pub Fails : TotalsPart → TotalsPart → Type 0
Fails old new =
    ((IsOneOf old.left Damaged ⊎ HasTooMany (IsOneOf old.left) old.totals.next) × (new ≡ old))
    ⊎ DiskFails old new

-- what a recovery answers if it recovers nothing: there are no totals, or it fails
abbrev pub RecoversNothing : TotalsPart → Answer → TotalsPart → Type 0
RecoversNothing old result new =
    ((result ≡ answer.Refused code.NoHardware 0) × IsOneOf old.left Unformatted × (new ≡ old))
    ⊎ ((result ≡ answer.Refused code.Failure 0) × Fails old new)

-- the property is set to true
abbrev pub is_enabling : Property → Value → Bool
is_enabling property.DeviceEnabled (value.Truth is_enabled) = is_enabled
is_enabling p v = false

-- the device that is open is the Hard Totals
abbrev pub is_totals_open : Option OpenDevice → Bool
is_totals_open (Some open_device.Totals) = true
is_totals_open device = false

-- a control that has the Hard Totals open, and is disabled, is to be enabled
abbrev pub asks_recovery : Control → Property → Value → Bool
asks_recovery control p v = is_totals_open control.device && not control.enabled && is_enabling p v

-- setting the property starts a recovery: it enables a control of totals that are off
abbrev pub recovers : TotalsPart → Control → Property → Value → Bool
recovers part control p v = asks_recovery control p v && not (is_ready part.totals.mode)
