-- Cells that move within parts of the list are rows and columns that move.
use Rattle.pos_sims.proofs.Common.{Direction, Display, DisplayCell, List, MovesToEnd, MovesToFront, SameSize, Scrolls}
use Rattle.pos_sims.proofs.Common.{ShiftsToEnd, ShiftsToFront, arith, blank, cell_at, display_of, if◌then◌else◌, length}
use Rattle.pos_sims.proofs.Common.{nat_le, nat_tests, refl, scrolled_at, ℕ, ◌*◌, ◌+◌, ◌-◌, ◌<◌, ◌∙◌, ◌≡◌}
use Rattle.std.proofs.lemmas.Nat.{mod-mul-add}
use Rattle.pos_service.specs.declared.display_text.Direction.TheVariants as direction
use Rattle.pos_sims.proofs.WindowLemmas.{in_rows}

-- how the cells move as so many units are scrolled
abbrev pub Moves : Direction → ℕ → ℕ → List DisplayCell → List DisplayCell → Type 0
Moves direction.Up columns units old new = ShiftsToFront (units * columns) old new
Moves direction.Down columns units old new = ShiftsToEnd (units * columns) old new
Moves direction.Left columns units old new = MovesToFront columns units old new
Moves direction.Right columns units old new = MovesToEnd columns units old new

moved_down : (rows columns units row column : ℕ) (old new : List DisplayCell) → length old ≡ rows * columns
    → ShiftsToEnd (units * columns) old new → row < rows → column < columns
    → cell_at columns new row column ≡ (if nat_le units row then cell_at columns old (row - units) column else blank)
moved_down rows columns units row column old new count moved r c =
    let now = moved (row * columns + column) (omega (arith, in_rows rows columns row column c)) in
    let some = in_rows units columns row column c in
    grind (arith, nat_tests)

pub moved_cell : (direction : Direction) (rows columns units row column : ℕ) (old new : List DisplayCell)
    → length old ≡ rows * columns → Moves direction columns units old new → row < rows → column < columns
    → cell_at columns new row column ≡ scrolled_at (display_of rows columns old) direction units row column
moved_cell direction.Up rows columns units row column old new count moved r c =
    let now = moved (row * columns + column) (omega (arith, in_rows rows columns row column c)) in
    grind (arith, nat_tests, in_rows rows columns (row + units) column c)
moved_cell direction.Down rows columns units row column old new count moved r c =
    moved_down rows columns units row column old new count moved r c
moved_cell direction.Left rows columns units row column old new count moved r c =
    let now = rw mod-mul-add at (moved (row * columns + column) (omega (arith, in_rows rows columns row column c))) in
    grind (arith, nat_tests)
moved_cell direction.Right rows columns units row column old new count moved r c =
    let now = rw mod-mul-add at (moved (row * columns + column) (omega (arith, in_rows rows columns row column c))) in
    grind (arith, nat_tests)

pub scrolls : (direction : Direction) (units : ℕ) {old new : Display} → length old.cells ≡ old.rows * old.columns
    → SameSize old new → Moves direction old.columns units old.cells new.cells → Scrolls old direction units new
scrolls direction units {old} {new} count size moved = record {
  rows = size.rows;
  columns = size.columns;
  count = size.count ∙ count;
  cells = λ row column. moved_cell direction old.rows old.columns units row column old.cells new.cells count moved;
}

-- of a display whose cells are given
pub scrolls_sized : {direction : Direction} {units : ℕ} (rows columns : ℕ) {old new : List DisplayCell}
    → length old ≡ rows * columns → length new ≡ length old → Moves direction columns units old new
    → Scrolls (display_of rows columns old) direction units (display_of rows columns new)
scrolls_sized {direction} {units} rows columns count same moved =
    scrolls direction units count (record { rows = refl; columns = refl; count = same }) moved
