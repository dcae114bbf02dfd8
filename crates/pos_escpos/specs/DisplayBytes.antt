-- What is sent to a customer display.
use Rattle.std.specs.Prelude.{ℕ, zero, suc, ◌+◌, ◌*◌, Bool, List, [], ◌∷◌, ◌++◌, length, map, take, drop, nat_le}
use Rattle.std.specs.Prelude.{bytes_eq, ◌==◌, ◌&&◌, if◌then◌else◌}
use Rattle.std.specs.List.{list_all}
use Rattle.pos_service.specs.declared.display_text.DisplayCell.{DisplayCell}
use Rattle.pos_service.specs.Displays.{Display}
use Rattle.pos_escpos.specs.declared.settings.DisplayProtocol.{DisplayProtocol}
use Rattle.pos_escpos.specs.declared.settings.DisplayProtocol.TheVariants as protocol
use Rattle.pos_escpos.specs.Screens.{Make}

-- a display of this size
abbrev pub make_of : DisplayProtocol → Display → Make
make_of is display = record { protocol = is; rows = display.rows; columns = display.columns }

-- ESC @, and then clear
abbrev pub display_start : List ℕ
display_start = 27 ∷ 64 ∷ 12 ∷ []

-- the characters of cells: attributes aren't shown
abbrev pub characters_of : List DisplayCell → List ℕ
characters_of cells = map (λ cell. cell.character) cells

-- a cell with a character
abbrev pub is_character : DisplayCell → Bool
is_character cell = nat_le 32 cell.character && nat_le cell.character 126

-- a display has a character for each place, and its rows have numbers of one byte
abbrev pub is_whole : Display → Bool
is_whole display =
    nat_le 1 display.columns && nat_le display.rows 255 && length display.cells == display.rows * display.columns
    && list_all is_character display.cells

-- two displays have the same size
abbrev pub same_size : Display → Display → Bool
same_size old new = old.rows == new.rows && old.columns == new.columns

-- the old display can become the new one
abbrev pub can_become : Display → Display → Bool
can_become old new = same_size old new && is_whole old && is_whole new

-- the start of a row, from 1
abbrev pub row_start : DisplayProtocol → ℕ → List ℕ
row_start protocol.Cd5220 y = 27 ∷ 108 ∷ 1 ∷ y ∷ []
row_start protocol.EscPos y = 31 ∷ 36 ∷ 1 ∷ y ∷ []

-- a row: all its characters if one has changed
abbrev pub row_bytes : DisplayProtocol → ℕ → List DisplayCell → List DisplayCell → List ℕ
row_bytes is y old new =
    if bytes_eq (characters_of old) (characters_of new) then [] else row_start is y ++ characters_of new

-- so many rows, from row y on
abbrev pub rows_bytes : DisplayProtocol → ℕ → ℕ → ℕ → List DisplayCell → List DisplayCell → List ℕ
rows_bytes is columns y zero old new = []
rows_bytes is columns y (suc n) old new =
    row_bytes is y (take columns old) (take columns new)
    ++ rows_bytes is columns (y + 1) n (drop columns old) (drop columns new)
