-- What `show` prints of a receipt printer (docs/reference/console.md, "Answers").
use Rattle.std.specs.Prelude.{ℕ, ◌++◌, Bool, true, false, List, codes, decimal, flat_map}
use Rattle.pos_service.specs.declared.receipt_text.Alignment.{Alignment}
use Rattle.pos_service.specs.declared.receipt_text.Alignment.TheVariants as alignment
use Rattle.pos_service.specs.Receipts.{Item, Line, CutAt, Printer}
use Rattle.pos_script.specs.Glyphs.{printed_text}

-- where a line stands, as a letter
abbrev pub alignment_text : Alignment → List ℕ
alignment_text alignment.Left = codes "l"
alignment_text alignment.Center = codes "c"
alignment_text alignment.Right = codes "r"

-- a line or a cut
abbrev pub item_text : Item → List ℕ
item_text (Line stands characters) = alignment_text stands ++ (codes ":" ++ printed_text characters)
item_text (CutAt percentage) = codes "x:" ++ decimal percentage

-- what is printed, a space before each item
abbrev pub items_text : List Item → List ℕ
items_text items = flat_map (λ item. codes " " ++ item_text item) items

-- whether a cover is open
abbrev pub cover_text : Bool → List ℕ
cover_text true = codes "open"
cover_text false = codes "closed"

-- the cover, the lines of paper left, the line buffer, and what is printed
abbrev pub printer_text : Printer → List ℕ
printer_text printer =
    cover_text printer.is_cover_open ++ (codes " " ++ (decimal printer.left ++ (codes " "
    ++ (printed_text printer.buffer ++ items_text printer.items))))
