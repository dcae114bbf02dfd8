-- The categories: their words, the kinds of their devices, and what holds for all devices of one.
use Rattle.std.specs.Prelude.{Bool, true, false, ℕ, List, Option, Some, None, codes, bytes_eq, if◌then◌else◌}
use Rattle.pos_service.specs.declared.category.Category.{Category}
use Rattle.pos_service.specs.declared.category.Category.TheVariants as category
use Rattle.pos_service.specs.declared.kind.Kind.{Kind}
use Rattle.pos_service.specs.declared.kind.Kind.TheVariants as kind
use Rattle.pos_service.specs.Kinds.{is_display, is_printer}

-- the word of a category
abbrev pub name_of : Category → List ℕ
name_of category.CashDrawer = codes "CashDrawer"
name_of category.Scanner = codes "Scanner"
name_of category.LineDisplay = codes "LineDisplay"
name_of category.PosPrinter = codes "POSPrinter"
name_of category.HardTotals = codes "HardTotals"

-- the category of this word
abbrev pub category_named : List ℕ → Option Category
category_named word =
    if bytes_eq word (name_of category.CashDrawer) then Some category.CashDrawer
    else if bytes_eq word (name_of category.Scanner) then Some category.Scanner
    else if bytes_eq word (name_of category.LineDisplay) then Some category.LineDisplay
    else if bytes_eq word (name_of category.PosPrinter) then Some category.PosPrinter
    else if bytes_eq word (name_of category.HardTotals) then Some category.HardTotals
    else None

-- controls of a category may open devices of its kind; the Hard Totals are of none
abbrev pub serves : Category → Kind → Bool
serves category.CashDrawer kind.Drawer = true
serves category.CashDrawer other = false
serves category.Scanner kind.Scanner = true
serves category.Scanner other = false
serves category.LineDisplay k = is_display k
serves category.PosPrinter k = is_printer k
serves category.HardTotals k = false

-- the category is this one
abbrev pub is_category : Option Category → Category → Bool
is_category None c = false
is_category (Some category.CashDrawer) category.CashDrawer = true
is_category (Some category.Scanner) category.Scanner = true
is_category (Some category.LineDisplay) category.LineDisplay = true
is_category (Some category.PosPrinter) category.PosPrinter = true
is_category (Some category.HardTotals) category.HardTotals = true
is_category (Some other) c = false

-- exclusive-use devices: one is enabled for the control alone that holds it. The others are sharable.
abbrev pub is_exclusive : Category → Bool
is_exclusive category.CashDrawer = false
is_exclusive category.Scanner = true
is_exclusive category.LineDisplay = true
is_exclusive category.PosPrinter = true
is_exclusive category.HardTotals = false

-- a category's devices tell if they are on: CapPowerReporting is PR_STANDARD, else PR_NONE
abbrev pub reports_power : Category → Bool
reports_power category.CashDrawer = true
reports_power category.Scanner = true
reports_power category.LineDisplay = true
reports_power category.PosPrinter = true
reports_power category.HardTotals = false
