-- A text on a display's window, as it is laid character by character.
use Rattle.std.specs.Prelude.{◌≡◌, ℕ, ◌+◌, ◌-◌, ◌*◌, ◌%◌, ◌≤◌, ◌<◌, ◌&&◌, ◌++◌, ◌==◌, Bool, not, List, [], length, take}
use Rattle.std.specs.Prelude.{drop, map, get_or, nat_lt, nat_le, if◌then◌else◌}
use Rattle.pos_service.specs.declared.display_text.Attribute.{Attribute}
use Rattle.pos_service.specs.declared.display_text.DisplayCell.{DisplayCell}
use Rattle.pos_service.specs.declared.display_text.Place.{Place}
use Rattle.pos_sims.specs.declared.text_layout.TextStyle.{TextStyle}
use Rattle.pos_service.specs.Displays.{Display, Strip, cell_with, rows_above, shown_at, blank, with_text, text_from}
use Rattle.pos_service.specs.Displays.{IsWindow}

-- the cells of a display, row by row
abbrev pub Cells : Type 0
Cells = List DisplayCell

-- there are cells of so many rows and columns, and the place is one where a text may begin
pub record IsWithin (style : TextStyle) (cells : List DisplayCell) (place : Place) : Type 0 where
  pub count : length cells ≡ style.rows * style.columns
  pub some : 1 ≤ style.columns
  pub row : place.row < style.rows
  pub column : place.column ≤ style.columns

-- a display has the size that a text is laid for
pub record IsOfStyle (style : TextStyle) (display : Display) : Type 0 where
  pub rows : display.rows ≡ style.rows
  pub columns : display.columns ≡ style.columns

-- cells over which characters with an attribute stand, from a place on
abbrev pub with_run_at : ℕ → Attribute → List ℕ → List DisplayCell → List DisplayCell
with_run_at at attribute run cells = take at cells ++ (map (cell_with attribute) run ++ drop (at + length run) cells)

-- whether a byte of a text is a character: neither a line feed nor a carriage return
abbrev pub is_character : ℕ → Bool
is_character b = not (b == 10) && not (b == 13)

-- The cells are the window at the end of the strip, the place is the strip's, and below the window the strip is blank.
pub record Follows (style : TextStyle) (old : Cells) (strip : Strip) (cells : Cells) (place : Place) : Type 0 where
  pub window : IsWindow style.rows style.columns style.attribute old strip cells
  pub below : (row column : ℕ) → style.rows + rows_above style.rows strip.place ≤ row → column < style.columns →
      shown_at style.columns style.attribute old strip.placed row column ≡ blank
  pub row : place.row + rows_above style.rows strip.place ≡ strip.place.row
  pub column : place.column ≡ strip.place.column

-- whatever strip the cells and the place follow, after these bytes they follow it with the bytes on it
abbrev pub Lays : TextStyle → List DisplayCell → Place → List ℕ → List DisplayCell → Place → Type 0
Lays style was place bytes now reached =
    (old : List DisplayCell) (strip : Strip) →
    Follows style old strip was place → Follows style old (with_text style.columns [] bytes strip) now reached

-- over the old cells, the new ones show a text that begins at a place
abbrev pub ShowsOver : TextStyle → List DisplayCell → Place → List ℕ → List DisplayCell → Type 0
ShowsOver style old start bytes now =
    IsWindow style.rows style.columns style.attribute old (text_from style.columns start bytes) now

-- a window's size is one that a display may have, and so many cells fill it
pub record IsSized (rows columns cells : ℕ) : Type 0 where
  pub some_rows : 1 ≤ rows
  pub most_rows : rows ≤ 8
  pub some_columns : 1 ≤ columns
  pub most_columns : columns ≤ 80
  pub count : cells ≡ rows * columns

-- a display of this size with these cells
abbrev pub display_of : ℕ → ℕ → List DisplayCell → Display
display_of rows columns cells = record { rows = rows; columns = columns; cells = cells }

-- each cell is the one that stood so many places behind it, or a blank
abbrev pub ShiftsToFront : ℕ → List DisplayCell → List DisplayCell → Type 0
ShiftsToFront places old new =
    (k : ℕ) → k < length old →
    get_or new k blank ≡ (if nat_lt (k + places) (length old) then get_or old (k + places) blank else blank)

-- each cell is the one that stood so many places before it, or a blank
abbrev pub ShiftsToEnd : ℕ → List DisplayCell → List DisplayCell → Type 0
ShiftsToEnd places old new =
    (k : ℕ) → k < length old → get_or new k blank ≡ (if nat_le places k then get_or old (k - places) blank else blank)

-- within each part of so many cells, each cell is the one that stood so many places behind it, or a blank
abbrev pub MovesToFront : ℕ → ℕ → List DisplayCell → List DisplayCell → Type 0
MovesToFront width places old new =
    (k : ℕ) → k < length old →
    get_or new k blank ≡ (if nat_lt (k % width + places) width then get_or old (k + places) blank else blank)

-- within each part of so many cells, each cell is the one that stood so many places before it, or a blank
abbrev pub MovesToEnd : ℕ → ℕ → List DisplayCell → List DisplayCell → Type 0
MovesToEnd width places old new =
    (k : ℕ) → k < length old →
    get_or new k blank ≡ (if nat_le places (k % width) then get_or old (k - places) blank else blank)

-- a display keeps its size, and has as many cells
pub record SameSize (old new : Display) : Type 0 where
  pub rows : new.rows ≡ old.rows
  pub columns : new.columns ≡ old.columns
  pub count : length new.cells ≡ length old.cells
