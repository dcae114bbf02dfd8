-- Cells in turn: what a ring shows as its rows are blanked and its first row changes.
use Rattle.pos_sims.proofs.Common.{Attribute, Direction, DisplayCell, IsAbove, IsBelow, List, MovesToEnd, MovesToFront}
use Rattle.pos_sims.proofs.Common.{Scrolls, ShiftsToEnd, ShiftsToFront, StandsAt, ap, arith, blank, blanked, cases_lt}
use Rattle.pos_sims.proofs.Common.{cell_at, display_of, drop, ext_get_or, get_or, get_or-replicate, if◌then◌else◌, inl}
use Rattle.pos_sims.proofs.Common.{inr, length, length-append, length-drop, length-replicate, length-take}
use Rattle.pos_sims.proofs.Common.{mul-le-mul_right, nat_le, nat_lt, nat_tests, refl, take, turned, with_run_at, ℕ}
use Rattle.pos_sims.proofs.Common.{◌&&◌, ◌*◌, ◌+◌, ◌-◌, ◌<◌, ◌∙◌, ◌≡◌, ◌≤◌, ◌⊎◌}
use Rattle.pos_service.specs.declared.display_text.Direction.TheVariants as direction
use Rattle.pos_sims.proofs.RunLemmas.{parts, run_at, run_count}
use Rattle.pos_sims.proofs.ScrollLemmas.{moved_cell}
use Rattle.pos_sims.proofs.WindowLemmas.{in_rows}

-- in turn they are as many
pub turned_count : {X : Type 0} (s : ℕ) (cells : List X) → length (turned s cells) ≡ length cells
turned_count s cells = omega (
  arith,
  length-append (drop s cells) (take s cells),
  length-drop s cells,
  length-take s cells,
)

-- the cell at a place in turn
turned_at : (s k : ℕ) (cells : List DisplayCell) → s ≤ length cells → k < length cells
    → ((s + k < length cells) × (get_or (turned s cells) k blank ≡ get_or cells (s + k) blank))
    ⊎ ((length cells ≤ s + k) × (get_or (turned s cells) k blank ≡ get_or cells (s + k - length cells) blank))
turned_at s k cells le lt = grind (arith, parts)

blanked_at : (s w k : ℕ) (cells : List DisplayCell) → s + w ≤ length cells
    → get_or (blanked s w cells) k blank ≡ (if nat_le s k && nat_lt k (s + w) then blank else get_or cells k blank)
blanked_at s w k cells le = grind (arith, nat_tests, parts, get_or-replicate, length-replicate)

blanked_count : (s w : ℕ) (cells : List DisplayCell) → s + w ≤ length cells → length (blanked s w cells) ≡ length cells
blanked_count s w cells le = grind (arith, length-append, length-take, length-drop, length-replicate)

-- the first cells are blanked, and come last
feeds_cells : (s w : ℕ) {t : ℕ} (cells next : List DisplayCell) → s + w ≤ length cells → next ≡ blanked s w cells
    → (t ≡ s + w) ⊎ ((s + w ≡ length cells) × (t ≡ 0)) → ShiftsToFront w (turned s cells) (turned t next)
feeds_cells s w {t} cells next within is by = λ k lt.
    let count : length next ≡ length cells = ap length is ∙ blanked_count s w cells within in
    let size = turned_count s cells in
    let old = turned_at s (k + w) cells in
    let new = turned_at t k next in
    grind (arith, nat_tests, blanked_at s w (t + k) cells, blanked_at s w (t + k - length cells) cells)

-- the cells before the first are blanked, and come first
feeds_cells_back : {s : ℕ} (w t : ℕ) (cells next : List DisplayCell) → t + w ≤ length cells → next ≡ blanked t w cells
    → ((s ≡ 0) × (t + w ≡ length cells)) ⊎ (t + w ≡ s) → ShiftsToEnd w (turned s cells) (turned t next)
feeds_cells_back {s} w t cells next within is by = λ k lt.
    let count : length next ≡ length cells = ap length is ∙ blanked_count t w cells within in
    let size = turned_count s cells in
    let old = turned_at s (k - w) cells in
    let new = turned_at t k next in
    grind (arith, nat_tests, blanked_at t w (t + k) cells, blanked_at t w (t + k - length cells) cells)

-- the first row is blanked, and the row below it is the first
pub feeds : (rows columns first below : ℕ) (cells : List DisplayCell) {next : List DisplayCell}
    → length cells ≡ rows * columns → first < rows → next ≡ blanked (first * columns) columns cells
    → IsBelow rows first below → ShiftsToFront columns (turned (first * columns) cells) (turned (below * columns) next)
feeds rows columns first below cells {next} count lt is by =
    let within = mul-le-mul_right {m = first + 1} {n = rows} columns (omega arith) in
    feeds_cells (first * columns) columns cells next (omega arith) is (grind arith)

-- the row above the first is the first, and is blanked
pub feeds_back : (rows columns first above : ℕ) (cells : List DisplayCell) {next : List DisplayCell}
    → length cells ≡ rows * columns → first < rows → next ≡ blanked (above * columns) columns cells
    → IsAbove rows first above → ShiftsToEnd columns (turned (first * columns) cells) (turned (above * columns) next)
feeds_back rows columns first above cells {next} count lt is by =
    let within = mul-le-mul_right {m = above + 1} {n = rows} columns (omega arith) in
    feeds_cells_back columns (above * columns) cells next (omega arith) is (grind arith)

-- a row of the window is a row of the ring
row_at : (rows columns first row r column : ℕ) (cells : List DisplayCell) → first < rows → row < rows → r < rows
    → length cells ≡ rows * columns → (first + row ≡ r) ⊎ (first + row ≡ r + rows) → column < columns
    → cell_at columns (turned (first * columns) cells) row column ≡ cell_at columns cells r column
row_at rows columns first row r column cells lt within inside count is c =
    let le = mul-le-mul_right {m = first} {n = rows} columns (omega arith) in
    let at = turned_at (first * columns) (row * columns + column) cells (omega arith)
    (omega (arith, in_rows rows columns row column c)) in
    let whole = λ (n : ℕ) (e : first + row ≡ n). ap (λ (k : ℕ). k * columns) e in
    grind (arith, in_rows rows columns r column c, whole r, whole (r + rows))

row_of : (rows first row : ℕ) → first < rows → row < rows
    → (r : ℕ) × (r < rows) × ((first + row ≡ r) ⊎ (first + row ≡ r + rows))
row_of rows first row lt within = elim (cases_lt (first + row) rows) [
  | inl on ↦ (first + row, on, inl refl)
  | inr round ↦ (first + row - rows, omega arith, inr (omega arith))
]

module _ (rows columns first units : ℕ) (old new : List DisplayCell) (lt : first < rows)
    (count : length old ≡ rows * columns) (count' : length new ≡ rows * columns) where
  abbrev pub Turns : Direction → Type 0
  Turns way = Scrolls (display_of rows columns (turned (first * columns) old)) way units
      (display_of rows columns (turned (first * columns) new))

  -- within the rows the cells move in turn as they move in the ring, to the left
  pub turned_left : MovesToFront columns units old new → Turns direction.Left
  turned_left moved = record {
    rows = refl;
    columns = refl;
    count = turned_count (first * columns) new ∙ count';
    cells = λ row column r c.
        let (to, within, is) = row_of rows first row lt r in
        let was = row_at rows columns first row to (column + units) old lt r within count is in
        let now = row_at rows columns first row to column new lt r within count' is c in
        grind (
          arith,
          nat_tests,
          now,
          was,
          moved_cell direction.Left rows columns units to column old new count moved within c,
        );
  }

  -- and to the right
  pub turned_right : MovesToEnd columns units old new → Turns direction.Right
  turned_right moved = record {
    rows = refl;
    columns = refl;
    count = turned_count (first * columns) new ∙ count';
    cells = λ row column r c.
        let (to, within, is) = row_of rows first row lt r in
        let was = row_at rows columns first row to (column - units) old lt r within count is in
        let now = row_at rows columns first row to column new lt r within count' is c in
        grind (
          arith,
          nat_tests,
          now,
          was,
          moved_cell direction.Right rows columns units to column old new count moved within c,
        );
  }

-- a run that has room in its row has it in the ring
ring_room : (rows columns first row column : ℕ) {start count place long : ℕ} → start ≡ first * columns
    → count ≡ rows * columns → first < rows → row < rows → column + long ≤ columns → 1 ≤ long
    → StandsAt (row * columns + column) start count place → place + long ≤ count
ring_room rows columns first row column {long} e f first_lt lt room some stands =
    let end = in_rows rows columns (first + row) (column + long - 1) (omega arith) in
    let last = in_rows rows columns row (column + long - 1) (omega arith) in
    let within = mul-le-mul_right {m = first + 1} {n = rows} columns (omega arith) in
    grind (arith, in_rows rows columns (first + row) column)

-- a run of characters in turn, where its row isn't cut
pub run_turned : (rows columns first row column start place : ℕ) (attribute : Attribute) (run : List ℕ)
    (cells : List DisplayCell) → start ≡ first * columns → length cells ≡ rows * columns → first < rows → row < rows
    → column + length run ≤ columns → 1 ≤ length run → StandsAt (row * columns + column) start (length cells) place
    → (place + length run ≤ length cells) × (turned start (with_run_at place attribute run cells)
    ≡ with_run_at (row * columns + column) attribute run (turned start cells))
run_turned rows columns first row column start place attribute run cells e count first_lt lt room some stands =
    let fits = ring_room rows columns first row column e count first_lt lt room some stands in
    let within = mul-le-mul_right {m = first} {n = rows} columns (omega arith) in
    let last = in_rows rows columns row (column + length run - 1) (omega arith) in
    let now = with_run_at place attribute run cells in
    let same = run_count place attribute run cells fits in
    let old_count = turned_count start cells in
    let new_count = turned_count start now in (
      fits,
      ext_get_or blank _ _ (grind (arith, run_count))
          (λ k h. grind (arith, nat_tests, run_at, turned_at start k now, turned_at start k cells)),
    )
