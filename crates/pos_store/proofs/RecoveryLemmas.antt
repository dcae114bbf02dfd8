-- What a recovery of a store that is off did, by what it found and that it only looked at the disk.
use Rattle.pos_store.proofs.Common.{Applies, Damaged, Decodes, DirectoryFault, DiskStandsFor, EndsAt, Err, File}
use Rattle.pos_store.proofs.Common.{FindsStanding, Ghosts, HasNotFailed, HoldsFiles, HoldsRecords, HoldsSome}
use Rattle.pos_store.proofs.Common.{ImageFault, IsBody, IsDirectory, IsErr, IsErrOf, IsLogReady, KeepsDisk, Layout}
use Rattle.pos_store.proofs.Common.{LeavesItsFiles, Limits, List, LogFault, LogView, MayLeave, Off, Ok, OnOk, Recovers}
use Rattle.pos_store.proofs.Common.{ReportsImages, ReportsLog, Result, Rises, Standing, StandsFor, StoreFault}
use Rattle.pos_store.proofs.Common.{StoreView, Unformatted, Watches, arith, image_on, inr, layout_of, limits_of}
use Rattle.pos_store.proofs.Common.{one_log, one_spelling, refl, rules, spelling, started, sym, view_of, ℕ, ⊎_elim, ◌↔◌}
use Rattle.pos_store.proofs.Common.{◌∙◌, ◌≡◌, ◌⊎◌}
use Rattle.pos_store.proofs.DiskFileLemmas.{leaves_files, ready_with}
use Rattle.pos_store.proofs.StandingLemmas.{finds_so, recovers_one, same_image, writable}
use Rattle.pos_dir.specs.declared.fault.DirectoryFault.TheVariants as directory
use Rattle.pos_image.specs.Standing as image
use Rattle.pos_image.specs.declared.fault.ImageFault.TheVariants as images
use Rattle.pos_log.specs.declared.fault.LogFault.TheVariants as logs
use Rattle.pos_store.specs.declared.medium.StoreMedium.TheVariants as which
use Rattle.pos_store.specs.declared.fault.StoreFault.TheVariants as fault

-- a recovery that only looked at the disk of a store that was off
pub off_recovers : {D : Type 0} (bound : Ghosts D) (disk : D) (layout : Layout) (result : Result (Unit {0}) StoreFault)
    (new : StoreView D) → FindsStanding (DiskStandsFor bound disk) result new.layout new.state
    → (IsErr result → new.layout ≡ layout) → (bound.honest disk → Watches (bound.state disk) (bound.state new.disk))
    → (bound.honest disk → LeavesItsFiles new.layout new.state (bound.state new.disk))
    → (bound.honest disk → OnOk result (EndsAt new.layout new.tail (bound.state disk).reading)) → (bound.honest disk
    → IsErrOf result fault.Device → Rises (bound.state disk).failures (bound.state new.disk).failures)
    → (bound.honest disk → IsErrOf result fault.Device ⊎ HasNotFailed (bound.state disk) (bound.state new.disk))
    → KeepsDisk bound disk new.disk → Recovers bound (view_of (which.Off disk layout)) result new
off_recovers bound disk layout result new finds kept watches now ends device counts keeps =
    let stands = λ (h : bound.honest disk). finds_so (DiskStandsFor bound disk)
    (λ standing. StandsFor standing (bound.state disk).reading) (λ standing stands. stands h) result _ new.state finds
    in
    let one_of = λ (h : bound.honest disk)
    (candidates : List Standing). recovers_one candidates _ _ result new.layout new.state (stands h) (watches h) in
    grind (arith, watches)

-- a recovery of a store that is ready, which uses no call of the disk
pub ready_recovers : {D : Type 0} (bound : Ghosts D) (log : LogView D) (files : List File)
    → ((bytes : List ℕ) → bound.honest log.images.disk
    → (bound.state log.images.disk).left_since (bound.state log.images.disk).moment bytes
    → MayLeave (bound.state log.images.disk) bytes) → IsLogReady bound log → (bound.honest log.images.disk
    → HoldsFiles (layout_of log.images.slot) files log.images.sequence (bound.state log.images.disk).reading)
    → Recovers bound (ready_with log files) (Ok tt) (ready_with log files)
ready_recovers bound log files only ready holds = grind (arith, started, leaves_files)

-- a recovery that was refused for another cause than a fault of the disk
pub refused_recovers : {D : Type 0} {bound : Ghosts D} {disk end : D} {layout : Layout} (cause : StoreFault)
    → (IsErrOf {T = Unit {0}} (Err cause) fault.Device → ⊥) → FindsStanding (DiskStandsFor bound disk)
    (Err cause) layout Off → (bound.honest disk → Watches (bound.state disk) (bound.state end))
    → (bound.honest disk → HasNotFailed (bound.state disk) (bound.state end)) → KeepsDisk bound disk end
    → Recovers bound (view_of (which.Off disk layout)) (Err cause) (view_of (which.Off end layout))
refused_recovers {bound} {disk} {layout} cause none finds watches same keeps = off_recovers bound disk layout
    (Err cause) _ finds (λ err. refl) watches (λ h. tt) (λ h. tt) (λ h is. absurd (none is)) (λ h. inr (same h)) keeps

-- what is found where the images weren't opened
pub told_finds : (P : Standing → Type 0) (layout : Layout) {cause : ImageFault} (told : StoreFault)
    → ReportsImages cause told → ((cause ≡ images.Unformatted) ⊎ (cause ≡ images.TooSmall) → P Unformatted)
    → (cause ≡ images.Damaged → P Damaged) → (cause ≡ images.TooSmall) ⊎ ((cause ≡ images.Unformatted)
    ⊎ ((cause ≡ images.Damaged) ⊎ ((cause ≡ images.Device) ⊎ (cause ≡ images.NoMemory))))
    → FindsStanding P (Err told) layout Off
told_finds P layout told tells unformatted damaged known = grind arith

-- the disk's fault is told alone, wherever it is answered
pub told_alone : {cause : ImageFault} {told : StoreFault} → ReportsImages cause told
    → IsErrOf {T = Unit {0}} (Err told) fault.Device ↔ (cause ≡ images.Device)
told_alone tells = ((λ is. grind arith), (λ is. grind arith))

-- a damaged image is damage
pub damaged_stands : (bytes : List ℕ) → image_on bytes ≡ image.DamagedImage → StandsFor Damaged bytes
damaged_stands bytes same = grind arith

-- and so is one whose body spells no directory
pub no_body_stands : (bytes : List ℕ) (layout : Layout) (body : List ℕ) (sequence : ℕ)
    → image_on bytes ≡ image.OneImage layout body sequence → ¬ (IsBody (limits_of layout) body)
    → StandsFor Damaged bytes
no_body_stands bytes layout body sequence same none = grind (arith, same_image)

-- one behind which no records stand
pub no_log_stands : (bytes : List ℕ) (layout : Layout) (body : List ℕ) (sequence : ℕ)
    → image_on bytes ≡ image.OneImage layout body sequence → ¬ (HoldsSome (image.log_of bytes))
    → StandsFor Damaged bytes
no_log_stands bytes layout body sequence same none = grind arith

-- and one whose records spell no applicable groups
pub no_groups_stand : (bytes : List ℕ) (layout : Layout) (body : List ℕ) (sequence : ℕ) (base : List File)
    (texts : List (List ℕ)) → image_on bytes ≡ image.OneImage layout body sequence → IsDirectory (limits_of layout) base
    → body ≡ spelling base → HoldsRecords texts (image.log_of bytes)
    → ((last : List File) → ¬ (Applies (limits_of layout) base texts last)) → StandsFor Damaged bytes
no_groups_stand bytes layout body sequence base texts same sound spelled held none = (
  (λ empty. let is = sym same ∙ empty in cc),
  (λ by files after holds.
      let shown = same_image (sym same ∙ holds.shows) in
      let is_base = one_spelling (limits_of layout) holds.base base (writable layout)
      (rw (← shown.0) at holds.directory) sound (sym shown.1 ∙ spelled) in
      let is_texts = one_log holds.texts texts (image.log_of bytes) holds.log held in
      none files (rw (← shown.0, is_base, is_texts) at holds.applies)),
)

-- malformed bytes spell no directory
pub malformed_none : {limits : Limits} {bytes : List ℕ} {cause : DirectoryFault} → cause ≡ directory.Malformed
    → Decodes limits bytes (Err cause) → ¬ (IsBody limits bytes)
malformed_none same decodes = rw same at decodes

-- what is found where the log wasn't opened
pub told_log_finds : (P : Standing → Type 0) (layout : Layout) {cause : LogFault} (told : StoreFault)
    → ReportsLog cause told → (cause ≡ logs.Damaged → P Damaged) → FindsStanding P (Err told) layout Off
told_log_finds P layout told tells damaged = grind arith

-- the disk's fault is told alone, wherever it is answered
pub told_log_alone : {cause : LogFault} {told : StoreFault} → ReportsLog cause told
    → IsErrOf {T = Unit {0}} (Err told) fault.Device ↔ (cause ≡ logs.Device)
told_log_alone tells = ((λ is. grind arith), (λ is. grind arith))

-- a call that answered no fault of the disk left its count
pub never_failed : {T E : Type 0} (before now : ℕ) (made : T) (device : E) → IsErrOf (Ok made) device ⊎ (now ≡ before)
    → now ≡ before
never_failed before now made device counts = ⊎_elim (λ is. absurd cc) (λ same. same) counts

-- what is found where the records weren't applied
pub told_text_finds : (P : Standing → Type 0) (layout : Layout) {cause : StoreFault} → (cause ≡ fault.Damaged)
    ⊎ (cause ≡ fault.NoMemory) → (cause ≡ fault.Damaged → P Damaged) → FindsStanding P (Err cause) layout Off
told_text_finds P layout known damaged = ⊎_elim (λ is. rw is (damaged is, refl)) (λ is. rw is refl) known

-- two runs of calls keep the disk
pub both_keep : {D : Type 0} (bound : Ghosts D) (old mid new : D) → KeepsDisk bound old mid → KeepsDisk bound mid new
    → KeepsDisk bound old new
both_keep bound old mid new first second = search (rules, first, second)

-- failures that rose in a later call rose since an earlier one
pub later : {D : Type 0} {bound : Ghosts D} {old mid new : D} → KeepsDisk bound old mid → KeepsDisk bound mid new
    → bound.honest old → Rises (bound.state mid).failures (bound.state new).failures
    → Rises (bound.state old).failures (bound.state new).failures
later first second honest rises = grind arith

-- damage and want of memory are no faults of the disk
pub not_device : {cause : StoreFault} → (cause ≡ fault.Damaged) ⊎ (cause ≡ fault.NoMemory)
    → IsErrOf {T = Unit {0}} (Err cause) fault.Device → ⊥
not_device known is = ⊎_elim (λ damaged. cc (is, damaged)) (λ memory. cc (is, memory)) known
