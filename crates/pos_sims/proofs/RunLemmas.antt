-- A run of characters on a window, and the strip that it follows.
use Rattle.pos_sims.proofs.Common.{Attribute, DisplayCell, Follows, IsWithin, List, TextStyle, Place, Strip, []}
use Rattle.pos_sims.proofs.Common.{and_parts, arith, blank, cell_with, drop, ext_get_or, false, get_or}
use Rattle.pos_sims.proofs.Common.{get_or-append_right, get_or-drop, get_or-map, get_or-set_other, get_or-take}
use Rattle.pos_sims.proofs.Common.{get_or_append_left, if◌then◌else◌, is_character, length, length-append, length-drop}
use Rattle.pos_sims.proofs.Common.{length-map, length-set, length-take, list_all, nat_le, nat_lt, nat_tests, place_at}
use Rattle.pos_sims.proofs.Common.{set, strip_at, take, take-add, take-append-drop, text_from, true, with_run_at}
use Rattle.pos_sims.proofs.Common.{with_text, with_text_append, ℕ, ◌&&◌, ◌*◌, ◌+◌, ◌-◌, ◌<◌, ◌∙◌, ◌∷◌, ◌≡◌, ◌≢◌, ◌≤◌}
use Rattle.std.proofs.lemmas.Grind.{get_or-set_at}
use Rattle.pos_sims.proofs.WindowLemmas.{in_rows, placed_here}

-- an element, and the length, of a list that is made of parts
pub ruleset parts = (
  get_or_append_left,
  get_or-append_right,
  get_or-drop,
  get_or-take,
  length-drop,
  length-take,
  length-append,
)

-- as many cells
pub run_count : (at : ℕ) (attribute : Attribute) (run : List ℕ) (cells : List DisplayCell)
    → at + length run ≤ length cells → length (with_run_at at attribute run cells) ≡ length cells
run_count at attribute run cells le = grind (arith, length-append, length-take, length-drop, length-map)

-- the cell at a place
pub run_at : (at : ℕ) (attribute : Attribute) (run : List ℕ) (cells : List DisplayCell) (k : ℕ)
    → at + length run ≤ length cells → get_or (with_run_at at attribute run cells) k blank ≡ (if nat_le at k
    && nat_lt k (at + length run) then cell_with attribute (get_or run (k - at) 0) else get_or cells k blank)
run_at at attribute run cells k le = grind (arith, nat_tests, parts, get_or-map, length-map)

-- a character more behind a run
pub run_more : (at : ℕ) (attribute : Attribute) (run : List ℕ) (cells : List DisplayCell) (n : ℕ)
    → at + length run ≤ length cells → n < length run → set (with_run_at at attribute (take n run) cells) (at + n)
    (cell_with attribute (get_or run n 0)) ≡ with_run_at at attribute (take (n + 1) run) cells
run_more at attribute run cells n le lt = ext_get_or blank _ _ (grind (arith, parts, length-set, length-map))
    (λ k h. grind (arith, nat_tests, parts, run_at, get_or-set_at, get_or-set_other, length-set))

-- a character before a run
run_first : (at : ℕ) (attribute : Attribute) (b : ℕ) (run : List ℕ) (cells : List DisplayCell)
    → at + length (b ∷ run) ≤ length cells → with_run_at (at + 1) attribute run
    (set cells at (cell_with attribute b)) ≡ with_run_at at attribute (b ∷ run) cells
run_first at attribute b run cells le = ext_get_or blank _ _ (grind (arith, parts, length-set, length-map))
    (λ k h. grind (arith, nat_tests, parts, run_at, get_or-set_at, get_or-set_other, length-set))

-- a row has no room for a character only where it is full
pub row_full : (b : ℕ) {column columns : ℕ} → b ≢ 10 → b ≢ 13 → column ≤ columns
    → (column < columns → is_character b ≡ false) → column ≡ columns
row_full b e f le stops = grind (arith, nat_tests)

-- so much of a text, and bytes behind it
pub text_further : (columns : ℕ) (start : Place) (bytes : List ℕ) (i n : ℕ) → 0 < columns → text_from columns start
    (take (i + n) bytes) ≡ with_text columns [] (take n (drop i bytes)) (text_from columns start (take i bytes))
text_further columns start bytes i n some =
    rw (take-add, with_text_append columns [] (take i bytes) (take n (drop i bytes)) (strip_at [] start) some)

-- a run of characters in the window
pub run_here : (style : TextStyle) (old : List DisplayCell) (run : List ℕ) (cells : List DisplayCell) (strip : Strip)
    (place : Place) → IsWithin style cells place → list_all is_character run ≡ true
    → place.column + length run ≤ style.columns → Follows style old strip cells place
    → Follows style old (with_text style.columns [] run strip)
    (with_run_at (place.row * style.columns + place.column) style.attribute run cells)
    (place_at place.row (place.column + length run))
run_here style old [] cells strip place within all room h =
    let at : place.row * style.columns + place.column + 0 ≡ place.row * style.columns + place.column = omega arith in
    rw (at, take-append-drop)
    (record { window = h.window; below = h.below; row = h.row; column = omega (arith, h.column) })
run_here style old (b ∷ run) cells strip place within all room h =
    let at = place.row * style.columns + place.column in
    let parts = and_parts (is_character b) (list_all is_character run) all in
    let first = cell_with style.attribute b in
    let inside = in_rows style.rows style.columns place.row (place.column + length run) (omega arith) in
    let one = placed_here style old cells strip place b within (omega arith) (grind (arith, nat_tests))
    (grind (arith, nat_tests)) h in
    let rest = run_here style old run (set cells at first) (with_text style.columns [] (b ∷ []) strip)
    (place_at place.row (place.column + 1)) (record {
      count = length-set cells at first ∙ within.count;
      some = within.some;
      row = within.row;
      column = omega arith;
    }) parts.1 (omega arith) one in
    grind (
      arith,
      rest,
      run_first at style.attribute b run cells,
      with_text_append style.columns [] (b ∷ []) run strip,
    )
