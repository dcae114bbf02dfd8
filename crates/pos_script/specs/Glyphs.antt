-- Characters and how they look, as `show` prints them (docs/reference/console.md, "Answers").
use Rattle.std.specs.Prelude.{ℕ, ◌++◌, Bool, true, false, List, [], ◌∷◌, codes, decimal, map, flat_map}
use Rattle.hex.specs.Hex.{encode_lower}
use Rattle.pos_service.specs.declared.display_text.DisplayCell.{DisplayCell}
use Rattle.pos_service.specs.declared.receipt_text.PrintedCharacter.{PrintedCharacter}
use Rattle.pos_service.specs.Displays.{attribute_number_of}

-- all characters in lower-case hex
abbrev pub characters_text : {G : Type 0} → (G → ℕ) → List G → List ℕ
characters_text character glyphs = encode_lower (map character glyphs)

-- the number of how each looks, a digit each
abbrev pub looks_text : {G : Type 0} → (G → ℕ) → List G → List ℕ
looks_text look glyphs = flat_map (λ glyph. decimal (look glyph)) glyphs

-- the character of a display's cell
abbrev pub cell_character : DisplayCell → ℕ
cell_character cell = cell.character

-- how a display's cell looks: the number of its attribute
abbrev pub cell_look : DisplayCell → ℕ
cell_look cell = attribute_number_of cell.attribute

-- a display's cells: all characters row by row, and behind them all attributes
abbrev pub cells_text : List DisplayCell → List ℕ
cells_text cells = characters_text cell_character cells ++ (codes " " ++ looks_text cell_look cells)

-- the character that was printed
abbrev pub printed_character : PrintedCharacter → ℕ
printed_character printed = printed.byte

-- 1 for bold
abbrev pub bold_number : Bool → ℕ
bold_number true = 1
bold_number false = 0

-- how a printed character looks: whether it is bold
abbrev pub printed_look : PrintedCharacter → ℕ
printed_look printed = bold_number printed.is_bold

-- printed characters, and behind a colon how each looks; a hyphen for none of either
abbrev pub printed_text : List PrintedCharacter → List ℕ
printed_text [] = codes "-:-"
printed_text (first ∷ more) =
    characters_text printed_character (first ∷ more) ++ (codes ":" ++ looks_text printed_look (first ∷ more))
