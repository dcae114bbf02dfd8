-- What a profile says of each category: what a peripheral for an entry has to be, and its device of the built-in
-- profile.
use Rattle.std.specs.Prelude.{ℕ, List, [], ◌∷◌, Option, Some, None, codes}
use Rattle.pos_service.specs.declared.kind.Kind.{Kind}
use Rattle.pos_service.specs.declared.kind.Kind.TheVariants as kind
use Rattle.pos_service.specs.declared.category.Category.{Category}
use Rattle.pos_service.specs.declared.category.Category.TheVariants.{CashDrawer, Scanner, LineDisplay, PosPrinter}
use Rattle.pos_service.specs.declared.category.Category.TheVariants.{HardTotals}
use Rattle.pos_profile.specs.declared.entry.Entry.{Entry}
use Rattle.pos_profile.specs.declared.entry.Role.{Role}
use Rattle.pos_profile.specs.declared.entry.Role.TheVariants.{Device, Spare}
use Rattle.pos_profile.specs.Entries.{entry_with, no_numbers, plain}

-- the kind of a category's devices with the numbers of an entry; Hard Totals have no peripheral
abbrev pub kind_with : Category → Entry → Option Kind
kind_with CashDrawer entry = Some kind.Drawer
kind_with Scanner entry = Some kind.Scanner
kind_with LineDisplay entry = Some (kind.Display entry.rows entry.columns)
kind_with PosPrinter entry = Some (kind.Printer entry.chars entry.near)
kind_with HardTotals entry = None

-- the kind of an entry's peripheral
abbrev pub kind_of : Entry → Option Kind
kind_of entry = kind_with entry.category entry

-- all categories
abbrev pub all_categories : List Category
all_categories = CashDrawer ∷ Scanner ∷ LineDisplay ∷ PosPrinter ∷ HardTotals ∷ []

-- the categories that an entry of a list may have, as a user reads them
abbrev pub categories_of : Role → List ℕ
categories_of Device = codes "CashDrawer, Scanner, LineDisplay, POSPrinter or HardTotals"
categories_of Spare = codes "CashDrawer, Scanner, LineDisplay or POSPrinter"

-- the device of a category in the built-in profile: the cash drawer d1, the scanner s1, the line display p1 of 2 rows
-- of 4 columns, the receipt printer r1 of 8 characters a line, with 5 lines of paper, near their end at 2, and the Hard
-- Totals device t1; names are in bytes
abbrev pub built_entry : Category → Entry
built_entry CashDrawer = entry_with CashDrawer (100 ∷ 49 ∷ []) no_numbers plain
built_entry Scanner = entry_with Scanner (115 ∷ 49 ∷ []) no_numbers plain
built_entry LineDisplay =
    entry_with LineDisplay (112 ∷ 49 ∷ []) (record no_numbers { rows = 2; columns = 4 }) plain
built_entry PosPrinter =
    entry_with PosPrinter (114 ∷ 49 ∷ []) (record no_numbers { chars = 8; lines = 5; near = 2 }) plain
built_entry HardTotals = entry_with HardTotals (116 ∷ 49 ∷ []) no_numbers plain

-- the category of the built-in profile's spare
abbrev pub spare_category : Category
spare_category = CashDrawer
