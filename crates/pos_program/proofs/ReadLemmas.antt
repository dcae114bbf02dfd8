-- What reading the totals in a file asked of it.
use Rattle.std.proofs.Common.{List, [], ap, false, refl, ℕ, ◌∙◌, ◌++◌, ◌∷◌, ◌≡◌}
use Rattle.std.specs.Prelude.{Option, Some, None, Result, Ok, Err, IfOk, min}
use Rattle.pos_file.specs.Answers.{synced_of}
use Rattle.pos_file.specs.Calls.{Call, measure_call, read_call, share_call, sync_call}
use Rattle.pos_file.specs.declared.block_file.BlockFile.{Ghosts as FileGhosts}
use Rattle.pos_file.specs.Disks.{Asks, OpensBy, file_disks}
use Rattle.pos_file.specs.declared.fault.DiskFileFault.{DiskFileFault}
use Rattle.pos_file.specs.declared.file_disk.FileDisk.{FileDisk}
use Rattle.pos_image.specs.Layout.{disk_size}
use Rattle.pos_mirror.specs.Calls.{Opens as MirrorOpens}
use Rattle.pos_mirror.specs.Mirror.{Mirror}
use Rattle.pos_mirror.specs.declared.mirror.MirrorFault.{MirrorFault}
use Rattle.pos_program.proofs.MirroredLemmas.{all_moved, unfailed}
use Rattle.pos_program.specs.Answers.{Passes}
use Rattle.pos_program.specs.TotalsDisks.{AreRead, ClosesRefused, ClosesUnmirrored, MirrorsDisk, OpensDisk}
use Rattle.pos_program.specs.declared.file_fault.FileFault.{FileFault}

-- a sync that succeeded
sync_done : (done : Option ℕ) → Ok tt ≡ synced_of done → (n : ℕ) × (done ≡ Some n)
sync_done (Some n) is = (n, refl)
sync_done None is = cc

-- a disk that was mirrored has failed only if it had before
pub still_sound : {F : Type 0} (calls : F → List Call) (disk : FileDisk F) (totals : Mirror (FileDisk F))
    → MirrorOpens (file_disks calls) disk (min disk.size disk_size) (Ok totals) → disk.has_failed ≡ false
    → totals.below.has_failed ≡ false
still_sound {F} calls disk totals opens sound =
    let reads = opens.0 in
    let (done, asked_sync, same, is) = unfailed _ _ disk.has_failed sound reads.synced in
    let still = ap (λ (d : FileDisk F). d.has_failed) same in
    let (moved, asked_read, as_it_was, all) = unfailed _ _ reads.mid.has_failed still reads.read in
    ap (λ (d : FileDisk F). d.has_failed) as_it_was ∙ still

-- one call after another
four_calls : {none locked synced read : List Call} {lock measure sync sync' look look' : Call} → none ≡ []
    → locked ≡ none ++ lock ∷ measure ∷ [] → synced ≡ locked ++ sync ∷ [] → read ≡ synced ++ look ∷ [] → sync ≡ sync'
    → look ≡ look' → read ≡ lock ∷ measure ∷ sync' ∷ look' ∷ []
four_calls begins first second third same_sync same_look = rw (third, second, first, begins, same_sync, same_look) refl

module _ {F : Type 0} (below : FileGhosts F) (file : F) (disk : FileDisk F) where
  abbrev calls : F → List Call
  calls = below.calls

  -- the disk is what was answered
  opened : (answer : Result (FileDisk F) (DiskFileFault × F)) → OpensBy share_call calls file answer
      → Passes {E = FileFault} (ClosesRefused below) answer (Ok disk)
      → Asks calls file disk.file (share_call (Some 1) ∷ measure_call (Some disk.size) ∷ []) × (disk.has_failed ≡ false)
  opened (Ok other) opens is = let same : disk ≡ other = cc in rw same opens
  opened (Err refusal) opens is = absurd is

  -- and so is the mirror
  mirrored : {totals : Mirror (FileDisk F)} (answer : Result (Mirror (FileDisk F)) (MirrorFault × FileDisk F))
      → MirrorOpens (file_disks calls) disk (min disk.size disk_size) answer
      → Passes {E = FileFault} (ClosesUnmirrored below) answer (Ok totals)
      → MirrorOpens (file_disks calls) disk (min disk.size disk_size) (Ok totals)
  mirrored {totals} (Ok other) opens is = let same : totals ≡ other = cc in rw same opens
  mirrored (Err refusal) opens is = absurd is

  -- the four calls
  pub are_read : calls file ≡ [] → OpensDisk share_call below file (Ok disk)
      → (result : Result (Mirror (FileDisk F)) FileFault) → MirrorsDisk below disk result
      → IfOk result (AreRead calls)
  are_read none opens (Err why) mirrors = tt
  are_read none opens (Ok totals) mirrors =
      let (asked, sound) = opened opens.0 opens.1 opens.2 in
      let (reads, long, new) = mirrored mirrors.0 mirrors.1 mirrors.2 in
      let (done, asked_sync, same, is) = unfailed _ _ disk.has_failed sound reads.synced in
      let still = ap (λ (d : FileDisk F). d.has_failed) same in
      let (moved, asked_read, as_it_was, all) = unfailed _ _ reads.mid.has_failed still reads.read in
      let (n, settled) = sync_done done is in
      let whole = all_moved moved all in record {
        size = disk.size;
        synced = n;
        asked = four_calls none asked asked_sync asked_read (ap sync_call settled)
            (ap (read_call 0 totals.memory.present.reading) whole);
        as_long = long;
        new = new;
      }
