-- Why the image that the bytes hold is damaged.
use Rattle.std.proofs.Common.{◌≡◌, ◌<◌, ℕ, List, Bool, false, cond, arith}
use Rattle.std.proofs.lemmas.Bool.{leb-false}
use Rattle.pos_image.specs.Layout.{longest, start, first_of, layout_of, layout_on, length_at}
use Rattle.pos_image.specs.Standing.{NoImage, DamagedImage, OneImage, image_on, is_tied, current_on}
use Rattle.pos_image.specs.declared.layout.Layout.{Layout}

not_short : (none : Bool) {tied fits : Bool} (layout : Layout) (body : List ℕ) (sequence : ℕ)
    → cond none NoImage (cond tied DamagedImage (cond fits (OneImage layout body sequence) DamagedImage)) ≡ DamagedImage
    → tied ≡ false → fits ≡ false
not_short none layout body sequence is untied = grind arith

-- where no two slots are tied, its body is too long
pub long_body : (bytes : List ℕ) → image_on bytes ≡ DamagedImage → is_tied bytes (first_of (layout_on bytes)) ≡ false
    → longest (layout_of (current_on bytes)) < length_at bytes (start (current_on bytes))
unfolding image_on
long_body bytes is untied = leb-false _ _ (not_short _ _ _ _ is untied)
