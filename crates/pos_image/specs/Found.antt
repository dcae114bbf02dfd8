-- What was found on a disk.
use Rattle.std.specs.Prelude.{ℕ, List, Option}
use Rattle.std.specs.Option.{option_map}
use Rattle.pos_image.specs.Images.{Prepared, image_of}
use Rattle.pos_image.specs.Slots.{IsCurrent}
use Rattle.pos_image.specs.declared.image.Image.{Image}

-- the image that was found is the current one
abbrev pub FindsCurrent : List ℕ → Image → Type 0
FindsCurrent bytes image = IsCurrent bytes image.slot image.body.items image.sequence

-- what contracts see of the image that is prepared, if there is one
abbrev pub prepared_image : Option Image → Option Prepared
prepared_image prepared = option_map (λ image. image_of image.slot image.body.items image.sequence) prepared
