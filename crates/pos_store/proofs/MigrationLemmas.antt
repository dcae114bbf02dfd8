-- What a new image of layout 2 in the place of one of layout 1 means for the files.
use Rattle.pos_store.proofs.Common.{AnswersMigration, CountsNow, Err, File, Ghosts, HasOldOrNew, HoldsFiles}
use Rattle.pos_store.proofs.Common.{IsDirectory, IsErrOf, IsLogReady, Layout1, Layout2, List, LogView, MayLeave}
use Rattle.pos_store.proofs.Common.{Migrates, Ok, Ready, Renews, Stands, StandsForEither, StoreFault, [], arith, inr}
use Rattle.pos_store.proofs.Common.{layout_of, refl, limits_of, spelling, view_of, weaker, ℕ, ⊎_elim, ◌∷◌, ◌≡◌}
use Rattle.pos_store.proofs.DiskFileLemmas.{shows_now, holds_new, old_or_new_holds, leaves_files, ready_with}
use Rattle.pos_store.proofs.CrashLemmas.{stays}
use Rattle.pos_disk.specs.State.{DiskState}
use Rattle.pos_image.specs.DiskCalls.{KeepsBeside}
use Rattle.pos_image.specs.Standing as image
use Rattle.pos_image.specs.declared.slot.Slot.TheVariants.{Third}
use Rattle.pos_store.specs.Migrations.{KeepsFirstLayout}
use Rattle.pos_image.specs.declared.fault.ImageFault.TheVariants as images
use Rattle.pos_store.specs.declared.fault.StoreFault.TheVariants as fault
use Rattle.pos_store.specs.declared.medium.StoreMedium.TheVariants as which

-- an image in the first slot of layout 2, whose gate was opened or not: no slot of layout 1 was written
pub keeps_first : {n : ℕ} {old new : DiskState} → KeepsBeside Third n old new → KeepsFirstLayout old.reading new.reading
keeps_first beside = record {
  same_length = beside.same_length;
  each = λ i first. beside.elsewhere i
      (λ hit. ⊎_elim (λ inside. omega (arith, first, inside.0)) (λ gate. omega (arith, first, gate)) hit);
}

-- nor was anything
pub keeps_all : (bytes : List ℕ) → KeepsFirstLayout bytes bytes
keeps_all bytes = record { same_length = refl; each = λ i first. refl }

-- a log that is ready, with files
module _ {D : Type 0} (bound : Ghosts D) (log : LogView D) (files : List File) (ready : IsLogReady bound log)
    (holds : bound.honest log.images.disk
    → HoldsFiles (layout_of log.images.slot) files log.images.sequence (bound.state log.images.disk).reading) where
  -- a migration that is refused without a call of the disk
  pub refused_migrates : (cause : StoreFault) → AnswersMigration (Ready files log.images.sequence)
      (layout_of log.images.slot) (ready_with log files) (Err cause) (ready_with log files)
      → (IsErrOf {T = Unit {0}} (Err cause) fault.Device → ⊥) → ((c : List ℕ) → bound.honest log.images.disk
      → (bound.state log.images.disk).left_since (bound.state log.images.disk).moment c
      → MayLeave (bound.state log.images.disk) c)
      → Migrates bound (ready_with log files) (Err cause) (ready_with log files)
  refused_migrates cause answer none only =
      let rest : bound.honest log.images.disk
      → KeepsFirstLayout (bound.state log.images.disk).reading (bound.state log.images.disk).reading =
      λ h. keeps_all (bound.state log.images.disk).reading in
      grind (arith, stays, leaves_files)

-- A log of layout 1 that is ready, with files, and a body that spells them for layout 2.
pub record Moves {D : Type 0} (bound : Ghosts D) (log : LogView D) (files : List File) (body : List ℕ) : Type 0 where
  pub ready : IsLogReady bound log
  pub holds : bound.honest log.images.disk
      → HoldsFiles (layout_of log.images.slot) files log.images.sequence (bound.state log.images.disk).reading
  pub first : layout_of log.images.slot ≡ Layout1
  pub sound : IsDirectory (limits_of Layout2) files
  pub spelled : body ≡ spelling files

module _ {D : Type 0} {bound : Ghosts D} {log : LogView D} {files : List File} {body : List ℕ}
    (moves : Moves bound log files body) where
  -- bytes that stand for the files by the layout before, or by layout 2
  abbrev Around : List ℕ → Type 0
  Around = StandsForEither (Stands (layout_of log.images.slot) files log.images.sequence ∷ [])
      (Stands Layout2 files 1 ∷ [])

  -- the old image with its records, or the new one with none
  moving_stands : bound.honest log.images.disk → (c : List ℕ)
      → HasOldOrNew log.images (image.log_of (bound.state log.images.disk).reading) Layout2 body 1 c → Around c
  moving_stands honest c either = grind (arith, old_or_new_holds, shows_now)

  module _ (new : LogView D) where
    -- a migration that moved the files
    module _ (renews : Renews bound log Layout2 body 1 (Ok tt) new) where
      pub moved_holds : bound.honest new.images.disk
          → HoldsFiles (layout_of new.images.slot) files new.images.sequence (bound.state new.images.disk).reading
      moved_holds honest = grind (arith, holds_new)

      pub moved_migrates : (bound.honest log.images.disk
          → KeepsFirstLayout (bound.state log.images.disk).reading (bound.state new.images.disk).reading)
          → Migrates bound (ready_with log files) (Ok tt) (ready_with new files)
      moved_migrates rest = record {
        answer = rw moves.first (λ i. record {
          disk = new.images.disk;
          layout = renews.layout_is i;
          state = Ready files (renews.sequence_is i);
          tail = renews.tail_is i;
        });
        crash = λ h. record {
          any_moment = rw (renews.layout_is, renews.sequence_is) (weaker (bound.state log.images.disk)
              (bound.state new.images.disk) _ _ (moving_stands h) (renews.any_moment h));
          now = leaves_files renews.ready.images moved_holds (renews.keeps.honest.0 h);
        };
        device = λ h is. absurd cc;
        counts = λ h. inr (⊎_elim (λ is. absurd cc) (λ same. same) (renews.counts h));
        rest = rest;
        keeps = renews.keeps;
      }

    -- a migration that met a fault of the disk
    pub failed_migrates : Renews bound log Layout2 body 1 (Err images.Device) new → (bound.honest log.images.disk
        → (bytes : List ℕ) → CountsNow (bound.state new.images.disk) (bound.state log.images.disk).moment bytes)
        → (bound.honest log.images.disk
        → KeepsFirstLayout (bound.state log.images.disk).reading (bound.state new.images.disk).reading) → Migrates bound
        (ready_with log files) (Err fault.Device) (view_of (which.Off new.images.disk (layout_of new.images.slot)))
    failed_migrates renews counts rest = grind (arith, weaker, moving_stands)
