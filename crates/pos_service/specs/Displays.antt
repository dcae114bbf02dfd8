-- What a line display shows (UnifiedPOS 1.16, chapter Line Display).
use Rattle.std.specs.Prelude.{◌≡◌, ℕ, ℤ, pos, negsuc, true, ◌+◌, ◌-◌, ◌*◌, ◌/◌, ◌%◌, ◌<◌, Bool, ◌&&◌, ◌||◌, List, []}
use Rattle.std.specs.Prelude.{◌∷◌, ◌++◌, length, replicate, Option, Some, None, unwrap_or, get_or, nat_le, nat_lt, ◌==◌}
use Rattle.std.specs.Prelude.{if◌then◌else◌}
use Rattle.std.specs.Option.{option_or, option_map}
use Rattle.std.specs.List.{list_all}
use Rattle.pos_service.specs.declared.display_text.Attribute.{Attribute}
use Rattle.pos_service.specs.declared.display_text.Attribute.TheVariants as attribute
use Rattle.pos_service.specs.declared.display_text.Direction.{Direction}
use Rattle.pos_service.specs.declared.display_text.Direction.TheVariants as direction
use Rattle.pos_service.specs.declared.display_text.DisplayCell.{DisplayCell}
use Rattle.pos_service.specs.declared.display_text.Cursor.{Cursor}
use Rattle.pos_service.specs.declared.display_text.Place.{Place}

-- the number of an attribute in the standard
abbrev pub attribute_number_of : Attribute → ℕ
attribute_number_of attribute.Normal = 0
attribute_number_of attribute.Blink = 1
attribute_number_of attribute.Reverse = 2
attribute_number_of attribute.BlinkReverse = 3

-- the number of a direction in the standard
abbrev pub direction_number_of : Direction → ℕ
direction_number_of direction.Up = 1
direction_number_of direction.Down = 2
direction_number_of direction.Left = 3
direction_number_of direction.Right = 4

-- the attribute with a number
abbrev pub attribute_numbered : ℕ → Option Attribute
attribute_numbered n =
    if n == 0 then Some attribute.Normal
    else (if n == 1 then Some attribute.Blink
    else (if n == 2 then Some attribute.Reverse
    else (if n == 3 then Some attribute.BlinkReverse else None)))

-- the attribute that an argument names
abbrev pub attribute_of : ℤ → Option Attribute
attribute_of (pos n) = attribute_numbered n
attribute_of (negsuc n) = None

-- the direction with a number
abbrev pub direction_numbered : ℕ → Option Direction
direction_numbered n =
    if n == 1 then Some direction.Up
    else (if n == 2 then Some direction.Down
    else (if n == 3 then Some direction.Left
    else (if n == 4 then Some direction.Right else None)))

-- the direction that an argument names
abbrev pub direction_of : ℤ → Option Direction
direction_of (pos n) = direction_numbered n
direction_of (negsuc n) = None

-- the first place of a display
abbrev pub origin : Place
origin = record { row = 0; column = 0 }

-- the defaults of CursorRow, CursorColumn and CursorUpdate
abbrev pub default_cursor : Cursor
default_cursor = record { place = origin; update = true }

-- a display: its size, and its cells row by row
pub record Display : Type 0 where
  pub rows : ℕ
  pub columns : ℕ
  pub cells : List DisplayCell

-- a blank: a space without an attribute
abbrev pub blank : DisplayCell
blank = record { character = 32; attribute = attribute.Normal }

-- a display that shows nothing
abbrev pub blank_display : ℕ → ℕ → Display
blank_display rows columns = record { rows = rows; columns = columns; cells = replicate (rows * columns) blank }

-- the map of the cells: the cell at a row and a column, or a blank below the last row
abbrev pub cell_at : ℕ → List DisplayCell → ℕ → ℕ → DisplayCell
cell_at columns cells row column = get_or cells (row * columns + column) blank

-- a byte that a display's text may have: a line feed, a carriage return, or a character of 0x20 to 0x7E
abbrev pub is_display_byte : ℕ → Bool
is_display_byte b = b == 10 || b == 13 || (nat_le 32 b && nat_le b 126)

-- a text that a display takes: at most 4,096 such bytes
abbrev pub is_display_text : List ℕ → Bool
is_display_text bytes = nat_le (length bytes) 4096 && list_all is_display_byte bytes

-- a place where a text may begin: in a row, and at most one right of its last column
abbrev pub is_cursor_place : ℕ → ℕ → Place → Bool
is_cursor_place rows columns place = nat_lt place.row rows && nat_le place.column columns

-- the most units of a scroll: rows up and down, columns left and right
abbrev pub most_units : ℕ → ℕ → Direction → ℕ
most_units rows columns direction.Up = rows
most_units rows columns direction.Down = rows
most_units rows columns direction.Left = columns
most_units rows columns direction.Right = columns

-- a character that was placed on an endless strip of rows
pub record Placed : Type 0 where
  pub at : Place
  pub character : ℕ

-- the characters that a text has placed on the strip, in order, and the place that it has reached
pub record Strip : Type 0 where
  pub placed : List Placed
  pub place : Place

-- where character k, from 0, of a run stands that begins at a place
abbrev pub place_of : ℕ → Place → ℕ → Place
place_of columns from k = record {
  row = from.row + (from.column + k) / columns;
  column = (from.column + k) % columns;
}

-- the characters of a run that begins at a place, from its character k on
abbrev pub run_from : ℕ → Place → ℕ → List ℕ → List Placed
run_from columns from k [] = []
run_from columns from k (b ∷ run) =
    record { at = place_of columns from k; character = b } ∷ run_from columns from (k + 1) run

-- one right of a place
abbrev pub right_of : Place → Place
right_of place = record { row = place.row; column = place.column + 1 }

-- a run that is placed on the strip: the place is then one right of its last character
abbrev pub with_run : ℕ → List ℕ → Strip → Strip
with_run columns [] strip = strip
with_run columns (b ∷ run) strip = record {
  placed = strip.placed ++ run_from columns strip.place 0 (b ∷ run);
  place = right_of (place_of columns strip.place (length run));
}

-- a carriage return goes to column 0 of its row
abbrev pub returned : Strip → Strip
returned strip = record { placed = strip.placed; place = record { row = strip.place.row; column = 0 } }

-- a line feed goes to column 0 of the next row
abbrev pub fed : Strip → Strip
fed strip = record { placed = strip.placed; place = record { row = strip.place.row + 1; column = 0 } }

-- a text behind the run so far: it is cut into runs at line feeds and carriage returns
abbrev pub with_text : ℕ → List ℕ → List ℕ → Strip → Strip
with_text columns run [] strip = with_run columns run strip
with_text columns run (b ∷ bytes) strip =
    if b == 10 then with_text columns [] bytes (fed (with_run columns run strip))
    else (if b == 13 then with_text columns [] bytes (returned (with_run columns run strip))
    else with_text columns (run ++ b ∷ []) bytes strip)

-- a text that begins at a place, on the strip
abbrev pub text_from : ℕ → Place → List ℕ → Strip
text_from columns from bytes = with_text columns [] bytes (record { placed = []; place = from })

-- The rows of the strip above the window, which has the last row reached in it. A text never goes up, so that is the
-- row of its last place.
abbrev pub rows_above : ℕ → Place → ℕ
rows_above rows place = place.row + 1 - rows

-- where the cursor is after a text: the place reached, its row counted in the window
abbrev pub place_in_window : ℕ → Place → Place
place_in_window rows place = record { row = place.row - rows_above rows place; column = place.column }

-- the cursor is in the window where the strip's place is
abbrev pub IsCursorOf : ℕ → Strip → Place → Type 0
IsCursorOf rows strip place = place ≡ place_in_window rows strip.place

-- wherever the cursor is that of a strip, after these bytes it is that of the strip with the bytes on it
abbrev pub MovesCursor : ℕ → ℕ → Place → List ℕ → Place → Type 0
MovesCursor rows columns was bytes now =
    (strip : Strip) → IsCursorOf rows strip was → IsCursorOf rows (with_text columns [] bytes strip) now

-- the last character that was placed at a row and a column of the strip
abbrev pub last_at : List Placed → ℕ → ℕ → Option ℕ
last_at [] row column = None
last_at (p ∷ placed) row column =
    option_or
    (last_at placed row column)
    (if p.at.row == row && p.at.column == column then Some p.character else None)

-- a character with an attribute
abbrev pub cell_with : Attribute → ℕ → DisplayCell
cell_with attribute b = record { character = b; attribute = attribute }

-- what stands on the strip: the last character placed there, with the attribute, else the old cell, else a blank
abbrev pub shown_at : ℕ → Attribute → List DisplayCell → List Placed → ℕ → ℕ → DisplayCell
shown_at columns attribute old placed row column =
    unwrap_or (option_map (cell_with attribute) (last_at placed row column)) (cell_at columns old row column)

-- Cells are the window at the end of the strip: over the old cells stand the characters that were placed.
abbrev pub IsWindow : ℕ → ℕ → Attribute → List DisplayCell → Strip → List DisplayCell → Type 0
IsWindow rows columns attribute old strip cells =
    (row column : ℕ) → row < rows → column < columns →
    cell_at columns cells row column
    ≡ shown_at columns attribute old strip.placed (row + rows_above rows strip.place) column

-- From the old display, a text that begins at a place leaves the new one.
pub record ShowsText (old : Display) (start : Place) (style : Attribute) (bytes : List ℕ) (new : Display) : Type 0 where
  pub rows : new.rows ≡ old.rows
  pub columns : new.columns ≡ old.columns
  pub count : length new.cells ≡ old.rows * old.columns
  pub window : IsWindow old.rows old.columns style old.cells (text_from old.columns start bytes) new.cells

-- The cell that a scroll brings to a row and a column: the one that stood so many units against the direction, or a
-- blank where none did.
abbrev pub scrolled_at : Display → Direction → ℕ → ℕ → ℕ → DisplayCell
scrolled_at old direction.Up units row column =
    if nat_lt (row + units) old.rows then cell_at old.columns old.cells (row + units) column else blank
scrolled_at old direction.Down units row column =
    if nat_le units row then cell_at old.columns old.cells (row - units) column else blank
scrolled_at old direction.Left units row column =
    if nat_lt (column + units) old.columns then cell_at old.columns old.cells row (column + units) else blank
scrolled_at old direction.Right units row column =
    if nat_le units column then cell_at old.columns old.cells row (column - units) else blank

-- From the old display, a scroll leaves the new one.
pub record Scrolls (old : Display) (direction : Direction) (units : ℕ) (new : Display) : Type 0 where
  pub rows : new.rows ≡ old.rows
  pub columns : new.columns ≡ old.columns
  pub count : length new.cells ≡ old.rows * old.columns
  pub cells : (row column : ℕ) → row < old.rows → column < old.columns →
      cell_at old.columns new.cells row column ≡ scrolled_at old direction units row column

-- Where a text that began at a place leaves the cursor: at the place that the text has reached, where CursorUpdate is
-- true, and else where it began.
abbrev pub place_left : ℕ → ℕ → Bool → Place → List ℕ → Place
place_left rows columns update start bytes =
    if update then place_in_window rows (text_from columns start bytes).place else start
