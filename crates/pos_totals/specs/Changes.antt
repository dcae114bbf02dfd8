-- What a change of the totals answers, and what a crash during it may leave.
use Rattle.std.specs.Prelude.{◌≡◌, ◌⊎◌, ℕ, List, [], ◌∷◌, map, Result, Ok, Err, ⊤}
use Rattle.pos_disk.specs.Keeps.{KeepsDisk}
use Rattle.pos_disk.specs.State.{DiskState, HasNotFailed, Rises}
use Rattle.pos_disk.specs.declared.device.Disk.{Ghosts}
use Rattle.pos_dir.specs.Changes.{outcome_of_all}
use Rattle.pos_image.specs.declared.layout.Layout.{Layout}
use Rattle.pos_service.specs.declared.answer.Answer.{Answer}
use Rattle.pos_service.specs.declared.answer.Answer.TheVariants as answer
use Rattle.pos_service.specs.declared.faults.NoMemory.{NoMemory}
use Rattle.pos_totals.specs.HardTotals.{Mode, Off, Ready, Totals, Change, files_of, next_sequences}
use Rattle.pos_totals.specs.TotalsChanges.{files_after_all, Changed, group_by_change}
use Rattle.pos_totals.specs.TotalsCommits.{Committed, group_by_commit}
use Rattle.pos_totals.specs.TotalsArrangements.{Arrangement, Arranges}
use Rattle.pos_store.specs.Layouts.{limits_of}
use Rattle.pos_store.specs.StoreViews as store
use Rattle.pos_store.specs.Standing.{Standing, Stands, LeavesOneOf, Passes}
use Rattle.pos_totals.specs.Groups.{group_of}
use Rattle.pos_totals.specs.Views.{TotalsView, plain, stored, TurnsOff, WhenOff}

-- the files before a group of changes, and those after the whole of it with each of the next sequences, on a disk of a
-- layout
abbrev pub before_or_after : Layout → ℕ → Mode → List Change → List Standing
before_or_after layout next Off changes = []
before_or_after layout next (Ready files sequence) [] = Stands layout (plain files) sequence ∷ []
before_or_after layout next (Ready files sequence) (change ∷ changes) =
    let after = plain (files_after_all next files (change ∷ changes)) in
    Stands layout (plain files) sequence ∷ map (λ follows. Stands layout after follows) (next_sequences sequence)

-- what the bytes stand for that a crash leaves: exactly their files while the totals are ready, else one of others
abbrev pub settled : Layout → Mode → List Standing → List Standing
settled layout mode otherwise = store.settled layout (stored mode) otherwise

-- the same if the disk failed in a group: while the totals were off, what it was before it
abbrev pub in_doubt : Layout → ℕ → List Standing → List Change → Mode → List Standing
in_doubt layout next left changes Off = left
in_doubt layout next left changes (Ready files sequence) = before_or_after layout next (Ready files sequence) changes

-- the same after a group, by the totals before it and the mode now: the files that the totals have; if they are off,
-- those before or after the group
abbrev pub left_after : Totals → List Standing → List Change → Mode → List Standing
left_after old left changes now = settled old.layout now (in_doubt old.layout old.next left changes old.mode)

-- what a crash leaves around a group, by the totals before it and the mode now, whatever it leaves before it while the
-- totals are off
abbrev pub LeavesBeforeOrAfter : Totals → List Change → Mode → DiskState → DiskState → Type 0
LeavesBeforeOrAfter totals changes now old new =
    (left : List Standing) → WhenOff totals.mode (LeavesOneOf left old)
    → Passes old new (settled totals.layout totals.mode left) (left_after totals left changes now)

-- without their handles, the files after changes are those after the whole of their group, within the limits of the
-- layout
abbrev pub IsOneGroup : Totals → List Change → Type 0
IsOneGroup old changes =
    let files = files_of old.mode in
    let outcome = outcome_of_all (limits_of old.layout) (plain files) (group_of files changes) in
    outcome ≡ Ok (plain (files_after_all old.next files changes))

-- it was answered that the call was done
abbrev pub IsDone : Result Answer NoMemory → Type 0
IsDone (Ok (answer.Done given)) = ⊤
IsDone (Ok (answer.Refused code extended)) = ⊥
IsDone (Err want) = ⊥

-- the disk has failed in a call: of a disk that isn't honest nothing is known
abbrev pub HasFailed : {D : Type 0} → Ghosts D → D → D → Type 0
HasFailed bound old new = bound.honest old → Rises (bound.state old).failures (bound.state new).failures

-- What a call does that puts changes on the disk as one group. Where a call has no changes, and where it is refused,
-- the disk is as it was; whatever else is said of the disk, and of what a crash may leave, is of an honest one.
pub record PutsGroup {D : Type 0} (bound : Ghosts D) (old : TotalsView D) (changes : List Change)
    (outcome : Result Answer NoMemory) (new : TotalsView D) : Type 0 where
  pub group : IsOneGroup old.totals changes
  -- a call without changes doesn't use the disk
  pub untouched : changes ≡ [] → new.disk ≡ old.disk
  -- nor does one that isn't done, except after a fault of the disk; it changes nothing
  pub unchanged : ¬ (IsDone outcome) → TurnsOff old.totals.mode new.totals.mode ⊎ (new ≡ old)
  -- a crash at any moment of the call leaves the files before the group or those after the whole of it, and a crash now
  -- exactly the files that the totals have; after a fault of the disk it leaves either
  pub crash : bound.honest old.disk
      → LeavesBeforeOrAfter old.totals changes new.totals.mode (bound.state old.disk) (bound.state new.disk)
  -- the disk fails only if that turns the totals off
  pub counts : bound.honest old.disk
      → TurnsOff old.totals.mode new.totals.mode ⊎ HasNotFailed (bound.state old.disk) (bound.state new.disk)
  pub kept : KeepsDisk bound old.disk new.disk

-- What a change does: it is answered by its table, and its group is put on the disk.
pub record Changes {D : Type 0} (bound : Ghosts D) (old : TotalsView D) (control : ℕ) (change : Change)
    (outcome : Result Answer NoMemory) (new : TotalsView D) : Type 0 where
  pub answer : Changed (HasFailed bound old.disk new.disk) old.totals control change outcome new.totals
  pub disk : PutsGroup bound old (group_by_change old.totals control change) outcome new

-- What a commit does: it is answered by its table, and its group is put on the disk.
pub record CommitsBuffer {D : Type 0} (bound : Ghosts D) (old : TotalsView D) (control : ℕ)
    (outcome : Result Answer NoMemory) (new : TotalsView D) : Type 0 where
  pub answer : Committed (HasFailed bound old.disk new.disk) old.totals control outcome new.totals
  pub disk : PutsGroup bound old (group_by_commit old.totals control) outcome new

-- What an arrangement does. It doesn't use the disk.
pub record Arranged {D : Type 0} (old : TotalsView D) (control : ℕ) (arrangement : Arrangement) (result : Answer)
    (new : TotalsView D) : Type 0 where
  pub answer : Arranges old.totals control arrangement result new.totals
  pub disk : new.disk ≡ old.disk
