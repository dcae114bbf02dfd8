-- What each change of the images leaves.
use Rattle.pos_image.proofs.Common.{Ghosts, HasFields, HasNewImage, HasPrepared, IsCurrent, IsPrepared, IsReady}
use Rattle.pos_image.proofs.Common.{IsSound, IsWritable, List, Prepared, SameBut, Slot, Some, View, [], ap, arith}
use Rattle.pos_image.proofs.Common.{false, get_or, is_open, layout_of, length, log_place, longest, nat_eq, rest_leaves}
use Rattle.pos_image.proofs.Common.{splice, spliced_same, start, true, ℕ, ◌+◌, ◌<◌, ◌^◌, ◌∷◌, ◌≡◌, ◌≤◌}
use Rattle.pos_image.proofs.CurrentImageLemmas.{published, published_log}
use Rattle.pos_image.proofs.LogLemmas.{image_here, new_image}
use Rattle.std.proofs.lemmas.Grind.{common_steps}

-- sound images are ready: at rest a crash leaves the current image and its log
pub ready : {D : Type 0} (bound : Ghosts D) (images : View D) → 327680 ≤ bound.size images.disk
    → images.sequence < 2 ^ 64 → (bound.honest images.disk → IsSound (bound.state images.disk) images)
    → IsReady bound images
ready bound images large counted sound =
    let here = λ (honest : bound.honest images.disk). image_here (sound honest).current in grind (arith, rest_leaves)

-- the image that was put into a slot
pub placed : (bytes body : List ℕ) (slot : Slot) (sequence : ℕ) → length body ≤ longest (layout_of slot)
    → is_open bytes (start slot) ≡ false → get_or bytes (start slot + log_place (layout_of slot)) 0 ≡ 0
    → HasFields bytes (start slot) sequence body → IsPrepared bytes slot body sequence
placed bytes body slot sequence short shut no_log fields = grind arith

-- a gate that was written
pub written_gate : (old new : List ℕ) (at byte : ℕ) → at + 1 ≤ length old → new ≡ splice old at (byte ∷ [])
    → (SameBut at 1 old new) × (get_or new at 0 ≡ byte)
written_gate old new at byte fits written = grind (arith, common_steps, spliced_same)

-- and opened
pub opened_gate : (old new : List ℕ) (at : ℕ) → at + 1 ≤ length old → new ≡ splice old at (165 ∷ [])
    → (SameBut at 1 old new) × (is_open new at ≡ true)
opened_gate old new at fits written = let is = written_gate old new at 165 fits written in
    (is.0, ap (λ (b : ℕ). nat_eq b 165) is.1)

module _ {D : Type 0} (bound : Ghosts D) (old : View D) (it : Prepared) (is_next : old.prepared ≡ Some it)
    (was : bound.honest old.disk) (writable : IsWritable bound old) where
  pub prepared_there : HasPrepared (bound.state old.disk).reading old.slot old.sequence it
  prepared_there = rw is_next at (writable.held was).prepared

  -- bytes whose gate of it was opened hold it as the current image
  pub opened_current : (c : List ℕ) → SameBut (start it.slot) 1 (bound.state old.disk).reading c
      → is_open c (start it.slot) ≡ true → IsCurrent c it.slot it.body it.sequence
  opened_current c same opened = published (writable.held was).current prepared_there same opened

  -- with no log
  pub opened_new : (c : List ℕ) → SameBut (start it.slot) 1 (bound.state old.disk).reading c
      → is_open c (start it.slot) ≡ true → HasNewImage (layout_of it.slot) it.body it.sequence c
  opened_new c same opened = new_image (opened_current c same opened) (published_log prepared_there.there same)
