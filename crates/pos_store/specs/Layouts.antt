-- What a totals disk may hold, by its layout. docs/reference/totals-file.md, "The layouts".
use Rattle.pos_dir.specs.declared.file.Limits.{Limits}
use Rattle.pos_dir.specs.declared.file.TheConstants.{LAYOUT_1, LAYOUT_2}
use Rattle.pos_image.specs.declared.layout.Layout.{Layout}
use Rattle.pos_image.specs.declared.layout.Layout.TheVariants.{Layout1, Layout2}

-- the limits of the files on a disk of a layout
abbrev pub limits_of : Layout → Limits
limits_of Layout1 = LAYOUT_1
limits_of Layout2 = LAYOUT_2
