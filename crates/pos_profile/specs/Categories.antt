-- The category whose devices have no peripheral (docs/reference/profile.md).
use Rattle.std.specs.Prelude.{Bool, true, false}
use Rattle.pos_service.specs.declared.category.Category.{Category}
use Rattle.pos_service.specs.declared.category.Category.TheVariants.{HardTotals}

-- it is Hard Totals
abbrev pub is_totals : Category → Bool
is_totals HardTotals = true
is_totals _ = false
