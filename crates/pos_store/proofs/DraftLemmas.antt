-- A group that is applicable, of which nothing was made.
use Rattle.pos_store.proofs.Common.{Change, Commits, DirectoryFault, Err, File, Ghosts, HoldsFiles, IsLogReady, IsOk}
use Rattle.pos_store.proofs.Common.{IsUnmade, List, LogView, MayLeave, Ok, Result, StoreFault, arith, layout_of}
use Rattle.pos_store.proofs.Common.{limits_of, outcome_of_all, refl, started, ℕ, ◌≡◌}
use Rattle.pos_disk.proofs.RangeLemmas.{unchanged}
use Rattle.pos_disk.specs.State.{DiskState}
use Rattle.pos_image.specs.DiskCalls.{Keeps}
use Rattle.pos_image.specs.Layout.{other, slot_size, start}
use Rattle.pos_image.specs.declared.layout.Layout.{Layout}
use Rattle.pos_image.specs.declared.slot.Slot.{Slot}
use Rattle.pos_store.proofs.DiskFileLemmas.{leaves_files, ready_with}
use Rattle.pos_store.specs.Commits.{WritesIn, fits_behind}
use Rattle.pos_dir.specs.Spelling.{group_spelling}
use Rattle.std.proofs.Common.{false, length, true, ◌+◌}
use Rattle.std.specs.Bool.{MatchBool}

-- a group that is applicable has files after it
pub applied : (outcome : Result (List File) DirectoryFault) → IsOk outcome → (after : List File) × (outcome ≡ Ok after)
applied (Ok after) ok = (after, refl)
applied (Err refused) ok = absurd cc

-- nor wrote it anything
none_written : (slot : Slot) (layout : Layout) (tail : ℕ) (changes : List Change) (disk : DiskState)
    → WritesIn slot layout tail changes disk disk
none_written slot layout tail changes disk = elim (fits_behind layout tail changes) as (λ fits. MatchBool fits
    (Keeps (start slot + tail) (6 + length (group_spelling changes)) disk disk)
    (Keeps (start (other slot)) (slot_size layout) disk disk)) [
      | true ↦ unchanged _ _ _
      | false ↦ unchanged _ _ _
    ]

-- a commit that made nothing
pub unmade_commits : {D : Type 0} {bound : Ghosts D} {log : LogView D} {files : List File} {changes : List Change}
    {cause : StoreFault} → IsLogReady bound log → (bound.honest log.images.disk
    → HoldsFiles (layout_of log.images.slot) files log.images.sequence (bound.state log.images.disk).reading)
    → (bound.honest log.images.disk → (c : List ℕ) → (bound.state log.images.disk).left_since
    (bound.state log.images.disk).moment c → MayLeave (bound.state log.images.disk) c)
    → IsOk (outcome_of_all (limits_of (layout_of log.images.slot)) files changes)
    → IsUnmade (layout_of log.images.slot) log.tail changes log.images.sequence cause
    → Commits bound (ready_with log files) changes (Err cause) (ready_with log files)
unmade_commits ready holds only applicable unmade = grind (arith, applied, leaves_files, started, none_written)
