-- The window of a strip: a row further, and a character more.
use Rattle.pos_sims.proofs.Common.{Attribute, Display, DisplayCell, Follows, IsWithin, List, TextStyle, Place, Placed}
use Rattle.pos_sims.proofs.Common.{SameSize, ShiftsToFront, Some, Strip, [], arith, blank, cases_eq, cell_at, cell_with}
use Rattle.pos_sims.proofs.Common.{character_text, fed, first_free, first_full, get_or, get_or-set_other}
use Rattle.pos_sims.proofs.Common.{get_or-set_same, get_or_past, if◌then◌else◌, last_at, length, mul-le-mul_right}
use Rattle.pos_sims.proofs.Common.{nat_tests, place_at, refl, right_of, rows_above, set, shown_at, strip_at, with_text}
use Rattle.pos_sims.proofs.Common.{ℕ, ◌&&◌, ◌*◌, ◌++◌, ◌+◌, ◌<◌, ◌==◌, ◌∙◌, ◌∷◌, ◌≡◌, ◌≢◌, ◌≤◌, ◌⊎◌}
use Rattle.std.proofs.lemmas.Nat.{same_from_place}

abbrev placed_at : Place → ℕ → Placed
placed_at at character = record { at = at; character = character }

-- a row is one of so many exactly where its places are
pub in_rows : (rows columns row column : ℕ) → column < columns
    → ((row < rows) × (row * columns + column < rows * columns))
    ⊎ ((rows ≤ row) × (rows * columns ≤ row * columns + column))
in_rows rows columns row column c =
    grind (arith, mul-le-mul_right {m = row + 1} {n = rows} columns, mul-le-mul_right {m = rows} {n = row} columns)

-- what stands at a place once another character is placed
last_more : (placed : List Placed) (at : Place) (b row column : ℕ) → last_at (placed ++ placed_at at b ∷ []) row column
    ≡ (if at.row == row && at.column == column then Some b else last_at placed row column)
last_more [] at b row column = refl
last_more (p ∷ placed) at b row column = rw (last_more placed at b row column) (grind arith)

shown_more : (columns : ℕ) (attribute : Attribute) (old : List DisplayCell) (placed : List Placed) (at : Place)
    (b row column : ℕ) → shown_at columns attribute old (placed ++ placed_at at b ∷ []) row column ≡ (if at.row == row
    && at.column == column then cell_with attribute b else shown_at columns attribute old placed row column)
shown_more columns attribute old placed at b row column = rw (last_more placed at b row column) (grind arith)

-- cells that shift to the front: past the end stands a blank
pub shifted : (cells next : List DisplayCell) (places : ℕ) → ShiftsToFront places cells next → (k : ℕ)
    → k < length cells → get_or next k blank ≡ get_or cells (k + places) blank
shifted cells next places moved k lt = grind (arith, nat_tests, get_or_past)

-- each cell is the one of the row below it
scrolled_window : (rows columns above : ℕ) (cells next : List DisplayCell) (see : ℕ → ℕ → DisplayCell)
    → length cells ≡ rows * columns
    → ((k : ℕ) → k < length cells → get_or next k blank ≡ get_or cells (k + columns) blank)
    → ((row column : ℕ) → row < rows → column < columns → cell_at columns cells row column ≡ see (row + above) column)
    → ((row column : ℕ) → rows + above ≤ row → column < columns → see row column ≡ blank) → (row column : ℕ)
    → row < rows → column < columns → cell_at columns next row column ≡ see (row + (above + 1)) column
scrolled_window rows columns above cells next see count moved window below row column r c =
    let now = moved (row * columns + column) (omega (arith, in_rows rows columns row column c)) in
    let inside = window (row + 1) column in
    let outside = below (row + (above + 1)) column in
    grind (arith, in_rows rows columns (row + 1) column c, get_or_past)

-- a row further, below the window
pub scrolled : (style : TextStyle) (old cells next : List DisplayCell) (strip : Strip) (place : Place)
    → IsWithin style cells place → style.rows ≤ place.row + 1 → ShiftsToFront style.columns cells next
    → Follows style old strip cells place → Follows style old (fed strip) next (place_at place.row 0)
scrolled style old cells next strip place within last moved h =
    let at = h.row in
    let lt = within.row in
    let above = rows_above style.rows strip.place in
    let see = shown_at style.columns style.attribute old strip.placed in
    record {
      window = λ row column.
          let now = scrolled_window style.rows style.columns above cells next see within.count
          (shifted cells next style.columns moved) in
          grind (arith, now h.window h.below row column);
      below = λ row column le. h.below row column (omega arith);
      row = omega arith;
      column = refl;
    }

-- the cells once a character is placed
placed_cell : (columns at row column above b : ℕ) (attribute : Attribute) (old cells : List DisplayCell)
    (placed : List Placed) (place : Place) {end : Place} → at ≡ place.row * columns + place.column → at < length cells
    → place.column < columns → column < columns → place.row + above ≡ end.row → place.column ≡ end.column
    → cell_at columns cells row column ≡ shown_at columns attribute old placed (row + above) column
    → cell_at columns (set cells at (cell_with attribute b)) row column ≡ shown_at columns attribute old
    (placed ++ placed_at end b ∷ []) (row + above) column
placed_cell columns at row column above b attribute old cells placed place is lt free c e f was =
    let one = same_from_place place.row place.column row column columns free c in
    grind (arith, nat_tests, shown_more, get_or-set_same, get_or-set_other, one, cases_eq (row * columns + column) at)

-- a character for which there is room
text_free : (columns b : ℕ) (strip : Strip) → strip.place.column < columns → b ≢ 10 → b ≢ 13 → with_text columns []
    (b ∷ []) strip ≡ strip_at (strip.placed ++ placed_at strip.place b ∷ []) (right_of strip.place)
text_free columns b strip lt e f = grind (arith, character_text, first_free)

-- a character in the window
pub placed_here : (style : TextStyle) (old cells : List DisplayCell) (strip : Strip) (place : Place) (b : ℕ)
    → IsWithin style cells place → place.column < style.columns → b ≢ 10 → b ≢ 13 → Follows style old strip cells place
    → Follows style old (with_text style.columns [] (b ∷ []) strip)
    (set cells (place.row * style.columns + place.column) (cell_with style.attribute b))
    (place_at place.row (place.column + 1))
placed_here style old cells strip place b within free e f h =
    let columns = style.columns in
    let across = h.column in
    let at = place.row * columns + place.column in
    let in_range : at < length cells =
    omega (arith, within.count, within.row, in_rows style.rows columns place.row place.column free) in
    rw (text_free columns b strip (omega arith) e f) (record {
      window = λ row column r c. placed_cell columns at row column (rows_above style.rows strip.place) b style.attribute
          old cells strip.placed place refl in_range free c h.row across (h.window row column r c);
      below = λ row column le c. grind (arith, nat_tests, shown_more, h.below row column le c, h.row);
      row = h.row;
      column = omega arith;
    })

-- right of the last column a character goes to the next row first
pub wrapped : (columns b : ℕ) (strip : Strip) → 0 < columns → strip.place.column ≡ columns → b ≢ 10 → b ≢ 13
    → with_text columns [] (b ∷ []) (fed strip) ≡ with_text columns [] (b ∷ []) strip
wrapped columns b strip some e f g = grind (arith, character_text, first_free, first_full)

-- a size kept twice
pub size_twice : {old mid new : Display} → SameSize old mid → SameSize mid new → SameSize old new
size_twice first second = record {
  rows = second.rows ∙ first.rows;
  columns = second.columns ∙ first.columns;
  count = second.count ∙ first.count;
}
