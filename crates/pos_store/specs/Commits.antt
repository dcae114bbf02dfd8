-- What a commit answers, and what a crash during it may leave.
use Rattle.std.specs.Prelude.{◌≡◌, ◌⊎◌, ◌≤◌, ◌+◌, ◌^◌, ℕ, Bool, true, false, nat_le, if◌then◌else◌, List, [], ◌∷◌}
use Rattle.std.specs.Bool.{MatchBool}
use Rattle.std.specs.Prelude.{length, Result, Ok, Err, IsOk, IsErr, IsErrOf, ⊤, MatchOption, MatchResult, Option, None}
use Rattle.pos_disk.specs.State.{DiskState, Rises, HasNotFailed}
use Rattle.pos_disk.specs.Keeps.{KeepsDisk}
use Rattle.pos_disk.specs.declared.device.Disk.{Ghosts}
use Rattle.pos_dir.specs.Changes.{fault_of, outcome_of_all}
use Rattle.pos_dir.specs.Files.{IsDirectory}
use Rattle.pos_dir.specs.Spelling.{spelling, group_spelling, body_limit}
use Rattle.pos_dir.specs.declared.change.Change.{Change}
use Rattle.pos_dir.specs.declared.fault.DirectoryFault.{DirectoryFault}
use Rattle.pos_dir.specs.declared.file.File.{File}
use Rattle.pos_image.specs.declared.layout.Layout.{Layout}
use Rattle.pos_image.specs.DiskCalls.{Keeps}
use Rattle.pos_image.specs.Layout.{log_place, slot_size, start, other}
use Rattle.pos_image.specs.Standing.{current_on}
use Rattle.pos_image.specs.declared.slot.Slot.{Slot}
use Rattle.pos_log.specs.Records.{end_of}
use Rattle.pos_store.specs.Layouts.{limits_of}
use Rattle.pos_store.specs.StoreViews.{StoreState, StoreView, Off, Ready, WhenReady, settled}
use Rattle.pos_store.specs.Standing.{Standing, Stands, Passes}
use Rattle.pos_store.specs.declared.commits.Draft.{Draft}
use Rattle.pos_store.specs.declared.commits.Draft.TheVariants as draft
use Rattle.pos_store.specs.declared.fault.StoreFault.{StoreFault}
use Rattle.pos_store.specs.declared.fault.StoreFault.TheVariants as fault

-- the sequence is the last one
abbrev pub IsLast : ℕ → Type 0
IsLast sequence = sequence + 1 ≡ 2 ^ 64

-- a group of these changes fits after records that end at this place: its record, and the gate after it, end in the
-- slot
abbrev pub fits_behind : Layout → ℕ → List Change → Bool
fits_behind layout tail changes = nat_le (end_of tail (length (group_spelling changes))) (slot_size layout)

-- the sequence after a group: the same if it fits after the records, else the next one, of a new image
abbrev pub sequence_after : Layout → ℕ → List Change → ℕ → ℕ
sequence_after layout tail changes sequence = if fits_behind layout tail changes then sequence else sequence + 1

-- the place at which the records end then
abbrev pub tail_after : Layout → ℕ → List Change → ℕ
tail_after layout tail changes =
    if fits_behind layout tail changes then tail + 5 + length (group_spelling changes) else log_place layout

-- the group needs a new image, and there is no sequence for it
abbrev pub IsExhausted : Layout → ℕ → List Change → ℕ → Type 0
IsExhausted layout tail changes sequence = (fits_behind layout tail changes ≡ false) × IsLast sequence

-- what goes to the disk for a group: its record with this text if it fits, else the body that spells the files after it
abbrev pub IsDraft : Layout → ℕ → List Change → ℕ → List File → List ℕ → Draft → Type 0
IsDraft layout tail changes sequence after text draft.Record =
    (fits_behind layout tail changes ≡ true) × (text ≡ group_spelling changes)
IsDraft layout tail changes sequence after text (draft.Image body) =
    (fits_behind layout tail changes ≡ false) × ¬ (IsLast sequence) × IsDirectory (limits_of layout) after
    × (body.items ≡ spelling after) × (length body.items ≤ body_limit (limits_of layout))

-- why none is made of an applicable group: memory ran out, or it needs a new image and there is no sequence for it
abbrev pub IsUnmade : Layout → ℕ → List Change → ℕ → StoreFault → Type 0
IsUnmade layout tail changes sequence cause =
    (cause ≡ fault.NoMemory) ⊎ ((cause ≡ fault.Exhausted) × IsExhausted layout tail changes sequence)

-- what a commit of an applicable group answers: at Ok the files after it are on the disk, after the records or in a new
-- image. Want of memory changes nothing. It is Exhausted exactly if a new image has no sequence, and only a fault of
-- the disk turns the store off.
abbrev pub PutsDown : {D : Type 0} → ℕ → List File → StoreView D → List Change → Result (Unit {0}) StoreFault
    → StoreView D → Type 0
PutsDown sequence after old changes (Ok _) new =
    ¬ (IsExhausted old.layout old.tail changes sequence)
    × (new.state ≡ Ready after (sequence_after old.layout old.tail changes sequence))
    × (new.tail ≡ tail_after old.layout old.tail changes)
PutsDown sequence after old changes (Err fault.NoMemory) new = new ≡ old
PutsDown sequence after old changes (Err fault.Exhausted) new =
    IsExhausted old.layout old.tail changes sequence × (new ≡ old)
PutsDown sequence after old changes (Err fault.Device) new =
    ¬ (IsExhausted old.layout old.tail changes sequence) × (new.state ≡ Off)
PutsDown sequence after old changes (Err other) new = ⊥

-- a group is applicable to the files of a store that is ready
abbrev pub IsApplicable : Layout → StoreState → List Change → Type 0
IsApplicable layout Off changes = ⊤
IsApplicable layout (Ready files sequence) changes = IsOk (outcome_of_all (limits_of layout) files changes)

-- what a commit answers, and the store after it, by the state before it: a store that is off answers Off, and else the
-- group, which is applicable, is put on the disk
abbrev pub Answers : {D : Type 0} → StoreState → StoreView D → List Change → Result (Unit {0}) StoreFault
    → StoreView D → Type 0
Answers Off old changes result new = (result ≡ Err fault.Off) × (new ≡ old)
Answers (Ready files sequence) old changes result new =
    MatchResult (outcome_of_all (limits_of old.layout) files changes)
    (λ after. PutsDown sequence after old changes result new)
    (λ refusal. ⊥)

-- the files before a group, and those after the whole of it, with the sequence that they have then
abbrev pub before_or_after : Layout → List File → ℕ → ℕ → Result (List File) DirectoryFault → List Standing
before_or_after layout files sequence then_sequence (Ok after) =
    Stands layout files sequence ∷ Stands layout after then_sequence ∷ []
before_or_after layout files sequence then_sequence (Err refusal) = Stands layout files sequence ∷ []

-- the same for a group after records that end at this place
abbrev pub left_by : Layout → List File → ℕ → ℕ → List Change → List Standing
left_by layout files sequence tail changes = before_or_after layout files sequence
    (sequence_after layout tail changes sequence) (outcome_of_all (limits_of layout) files changes)

-- what a crash leaves around a group that a store is to put on the disk, by its states before and after: its files
-- before it, and then the files that it has; if it is off then, those before the group or those after the whole of it
abbrev pub LeavesBeforeOrAfter : Layout → StoreState → ℕ → List Change → StoreState → DiskState → DiskState → Type 0
LeavesBeforeOrAfter layout Off tail changes now old new = ⊤
LeavesBeforeOrAfter layout (Ready files sequence) tail changes now old new =
    Passes old new (Stands layout files sequence ∷ [])
    (settled layout now (left_by layout files sequence tail changes))

-- Of a disk whose current image is in this slot nothing was written but the record of a group that fits, with the gate
-- after it, or else the other slot of the layout.
abbrev pub WritesIn : Slot → Layout → ℕ → List Change → DiskState → DiskState → Type 0
WritesIn slot layout tail changes old new =
    MatchBool (fits_behind layout tail changes)
    (Keeps (start slot + tail) (6 + length (group_spelling changes)) old new)
    (Keeps (start (other slot)) (slot_size layout) old new)

-- What a commit does. About the disk itself, and about what a crash may leave, it says something only if the disk is
-- honest.
pub record Commits {D : Type 0} (bound : Ghosts D) (old : StoreView D) (changes : List Change)
    (result : Result (Unit {0}) StoreFault) (new : StoreView D) : Type 0 where
  pub answer : Answers old.state old changes result new
  -- the layout stays
  pub layout : new.layout ≡ old.layout
  -- a refusal changes nothing and hasn't used the disk, except after a fault of the disk
  pub unchanged : IsErr result → IsErrOf result fault.Device ⊎ (new ≡ old)
  -- a crash at any moment of the call leaves the files before the group or those after the whole of it, and a crash now
  -- exactly the files that the store has; after a fault of the disk it leaves either
  pub crash : bound.honest old.disk
      → LeavesBeforeOrAfter old.layout old.state old.tail changes new.state
      (bound.state old.disk) (bound.state new.disk)
  -- whatever it answers, nothing was written but the record of the group, or else the slot of a new image
  pub rest : bound.honest old.disk
      → WhenReady old.state (WritesIn (current_on (bound.state old.disk).reading) old.layout old.tail changes
      (bound.state old.disk) (bound.state new.disk))
  -- the disk failed if its fault is answered
  pub device : bound.honest old.disk → IsErrOf result fault.Device
      → Rises (bound.state old.disk).failures (bound.state new.disk).failures
  -- and it fails only if its fault is answered
  pub counts : bound.honest old.disk
      → IsErrOf result fault.Device ⊎ HasNotFailed (bound.state old.disk) (bound.state new.disk)
  pub keeps : KeepsDisk bound old.disk new.disk

-- why a group isn't committed: the fault of its first change that isn't applicable to the files; none while the store
-- is off
abbrev pub refusal_of : Layout → StoreState → List Change → Option DirectoryFault
refusal_of layout Off changes = None
refusal_of layout (Ready files sequence) changes = fault_of (limits_of layout) files changes

-- What a commit of any group does: one that isn't applicable is refused with the fault of its first change that isn't,
-- and nothing changes, and any other is committed.
abbrev pub CommitsIfApplicable : {D : Type 0} → Ghosts D → StoreView D → List Change → Result (Unit {0}) StoreFault
    → StoreView D → Type 0
CommitsIfApplicable bound old changes result new =
    MatchOption (refusal_of old.layout old.state changes) (Commits bound old changes result new)
    (λ cause. (result ≡ Err (fault.Refused cause)) × (new ≡ old))
