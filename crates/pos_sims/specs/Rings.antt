-- A display's window whose rows are a ring, as contracts see it.
use Rattle.std.specs.Prelude.{◌≡◌, ℕ, ◌+◌, ◌-◌, ◌*◌, ◌<◌, ◌≤◌, ◌⊎◌, List, ◌++◌, replicate, take, drop}
use Rattle.pos_service.specs.declared.display_text.DisplayCell.{DisplayCell}
use Rattle.pos_service.specs.Displays.{Display, blank}
use Rattle.pos_sims.specs.declared.ring.Ring.{Ring}

-- the cells of a ring in turn, from a place on
abbrev pub turned : {X : Type 0} → ℕ → List X → List X
turned place cells = drop place cells ++ take place cells

-- so many cells from a place on are blanked
abbrev pub blanked : ℕ → ℕ → List DisplayCell → List DisplayCell
blanked place count cells = take place cells ++ replicate count blank ++ drop (place + count) cells

-- what a ring shows: its cells in turn, from those of the first row on
abbrev pub shown_on : Ring → Display
shown_on ring = record {
  rows = ring.rows;
  columns = ring.columns;
  cells = turned (ring.first * ring.columns) ring.cells.items;
}

-- the row below a row of a ring of so many: the next one, or the first below the last
abbrev pub IsBelow : ℕ → ℕ → ℕ → Type 0
IsBelow rows row below = ((row + 1 < rows) × (below ≡ row + 1)) ⊎ ((row + 1 ≡ rows) × (below ≡ 0))

-- the row above a row of a ring of so many: the one before, or the last above the first
abbrev pub IsAbove : ℕ → ℕ → ℕ → Type 0
IsAbove rows row above = ((row ≡ 0) × (above + 1 ≡ rows)) ⊎ (above + 1 ≡ row)

-- the cell at a place in turn stands there in a ring of so many cells, of which this one comes first
abbrev pub StandsAt : ℕ → ℕ → ℕ → ℕ → Type 0
StandsAt at start count place =
    ((start + at < count) × (place ≡ start + at)) ⊎ ((count ≤ start + at) × (place ≡ at - (count - start)))
