-- What devices are, with the sizes of displays (chapter Line Display, properties Rows and Columns) and of printers
-- (chapter POS Printer, property RecLineChars).
use Rattle.std.specs.Prelude.{ℕ, Bool, true, false, Option, Some}
use Rattle.pos_service.specs.declared.kind.Kind.{Kind}
use Rattle.pos_service.specs.declared.kind.Kind.TheVariants as kind

-- a cash drawer
abbrev pub is_drawer : Kind → Bool
is_drawer kind.Drawer = true
is_drawer kind.Scanner = false
is_drawer (kind.Display rows columns) = false
is_drawer (kind.Printer chars near) = false

-- a line display
abbrev pub is_display : Kind → Bool
is_display kind.Drawer = false
is_display kind.Scanner = false
is_display (kind.Display rows columns) = true
is_display (kind.Printer chars near) = false

-- a receipt printer
abbrev pub is_printer : Kind → Bool
is_printer kind.Drawer = false
is_printer kind.Scanner = false
is_printer (kind.Display rows columns) = false
is_printer (kind.Printer chars near) = true

-- the rows of what stands at a device: 0 where that is no display
abbrev pub rows_of : Option Kind → ℕ
rows_of (Some (kind.Display rows columns)) = rows
rows_of at = 0

-- the columns of what stands at a device: 0 where that is no display
abbrev pub columns_of : Option Kind → ℕ
columns_of (Some (kind.Display rows columns)) = columns
columns_of at = 0

-- the characters of a line of what stands at a device: 0 where that is no printer
abbrev pub chars_of : Option Kind → ℕ
chars_of (Some (kind.Printer chars near)) = chars
chars_of at = 0

-- at how many lines of paper a printer is near their end: 0 where a device is none
abbrev pub near_of : Kind → ℕ
near_of kind.Drawer = 0
near_of kind.Scanner = 0
near_of (kind.Display rows columns) = 0
near_of (kind.Printer chars near) = near
