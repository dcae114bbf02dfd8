-- The log span of the current slot.
use Rattle.pos_image.proofs.Common.{HasImage, HasNewImage, IsCurrent, List, Slot, Stages, ap, arith, get_or}
use Rattle.pos_image.proofs.Common.{get_or-part, kept_part, layout_of, log_in, log_of, log_place, log_size, refl, start}
use Rattle.pos_image.proofs.Common.{ℕ, ◌+◌, ◌∙◌, ◌≡◌}
use Rattle.pos_image.proofs.CurrentImageLemmas.{current_chosen, current_stands, stage_current}
use Rattle.pos_image.proofs.PlaceLemmas.{IsApart, places}

-- the log lies behind the current image
pub log_here : {slot : Slot} {bytes body : List ℕ} {sequence : ℕ} → IsCurrent bytes slot body sequence
    → log_of bytes ≡ log_in bytes slot
unfolding log_of
log_here {bytes} current = ap (log_in bytes) (current_chosen current).place

-- the current image with its log
pub image_here : {slot : Slot} {bytes body : List ℕ} {sequence : ℕ} → IsCurrent bytes slot body sequence
    → HasImage (layout_of slot) body sequence (log_of bytes) bytes
image_here current = record { image = current_stands current; log = refl }

-- what happens to another slot leaves the log
pub kept_image : {slot target : Slot} {old new body : List ℕ} {sequence : ℕ} → IsApart slot target
    → IsCurrent old slot body sequence → Stages target old new
    → HasImage (layout_of slot) body sequence (log_of old) new
kept_image {slot} apart was stages =
    let is = stage_current apart was stages in
    let here = places slot in
    let whole = was.whole in
    let log = kept_part stages.same (start slot + log_place (layout_of slot)) (log_size (layout_of slot)) (omega arith)
    (omega arith) in
    grind (arith, current_stands is, log_here is, log_here was)

-- a new image, whose log has 0 in its first gate
pub new_image : {slot : Slot} {bytes body : List ℕ} {sequence : ℕ} → IsCurrent bytes slot body sequence
    → get_or bytes (start slot + log_place (layout_of slot)) 0 ≡ 0 → HasNewImage (layout_of slot) body sequence bytes
new_image {slot} {bytes} current shut =
    let at = start slot + log_place (layout_of slot) in
    let first = get_or-part at (log_size (layout_of slot)) bytes 0 at (omega arith) (places slot).some in
    record { image = current_stands current; log = rw (log_here current) (first ∙ shut) }
