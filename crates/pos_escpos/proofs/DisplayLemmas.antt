-- How a display shows what is sent to it.
use Rattle.std.proofs.Common.{◌≡◌, ℕ, zero, suc, ◌+◌, ◌*◌, ◌<◌, ◌≤◌, Bool, true, false, List, [], ◌∷◌, ◌++◌, length}
use Rattle.std.proofs.Common.{take, drop, refl, ap, sym, ◌∙◌, append_assoc, length-append, length-drop, arith, subst}
use Rattle.std.proofs.Common.{Option, Some, None, ◌==◌, ◌&&◌, bytes_eq, nat_le, if◌then◌else◌, ⊎_elim}
use Rattle.std.specs.Prelude.{slice_set}
use Rattle.std.proofs.lemmas.Bool.{ne_eqb, le-leb, and_parts, leb-true, cases_Bool, eqb-true}
use Rattle.std.proofs.lemmas.List.{length-map, length-take-le, map-append, set_at, take-append-drop}
use Rattle.std.proofs.lemmas.List.Folds.{list_all-append, list_all-map}
use Rattle.std.proofs.lemmas.Slice.Eq.{bytes_eq-Decides}
use Rattle.std.proofs.lemmas.List.Sums.{fold-append}
use Rattle.std.specs.List.{fold, list_all}
use Rattle.pos_service.specs.declared.display_text.DisplayCell.{DisplayCell}
use Rattle.pos_service.specs.declared.display_text.Place.{Place}
use Rattle.pos_service.specs.Displays.{Display, blank, blank_display}
use Rattle.std.specs.Prelude.{replicate}
use Rattle.pos_escpos.specs.declared.settings.DisplayProtocol.{DisplayProtocol}
use Rattle.pos_escpos.specs.declared.settings.DisplayProtocol.TheVariants as protocol
use Rattle.pos_escpos.specs.DisplayBytes.{can_become, characters_of, is_character, is_whole, make_of, row_bytes}
use Rattle.pos_escpos.specs.DisplayBytes.{row_start, rows_bytes, same_size}
use Rattle.pos_escpos.specs.Screens.{IsShowing, Make, Screen, ShowsOnly, screen_after, takes}

-- a row is written, and the rows behind it are left
pub row_written : (is : DisplayProtocol) (columns y : ℕ) {n left : ℕ} (old new : List DisplayCell) (out : List ℕ)
    {next whole : List ℕ} → n ≡ suc left → next ≡ out ++ row_bytes is y (take columns old) (take columns new)
    → out ++ rows_bytes is columns y n old new ≡ whole
    → next ++ rows_bytes is columns (y + 1) left (drop columns old) (drop columns new) ≡ whole
row_written is columns y {left} old new out more wrote h =
    let rest = rows_bytes is columns (y + 1) left (drop columns old) (drop columns new) in
    ap (λ bytes. bytes ++ rest) wrote ∙ append_assoc out (row_bytes is y (take columns old) (take columns new)) rest
    ∙ ap (λ (k : ℕ). out ++ rows_bytes is columns y k old new) (sym more) ∙ h

-- the cells of the rows that are left
pub left_length : (rest columns : ℕ) {n left : ℕ} → n ≡ suc left → rest + columns ≡ n * columns → rest ≡ left * columns
left_length rest columns {left} more h =
    let whole : rest + columns ≡ suc left * columns = h ∙ ap (λ k. k * columns) more in omega arith

-- a display of this size
abbrev make_by : DisplayProtocol → ℕ → ℕ → Make
make_by is rows columns = record { protocol = is; rows = rows; columns = columns }

-- a display that shows characters
abbrev pub shown : Screen → List ℕ → Option Place → Screen
shown screen characters cursor =
    record screen { characters = characters; cursor = cursor; is_known = true; begun = [] }

-- the cursor in a row, or nowhere right of the last column
abbrev cursor_in : ℕ → ℕ → ℕ → Option Place
cursor_in columns row column = if column == columns then None else Some (record { row = row; column = column })

-- the cursor is at the start of a row
takes_start : (screen : Screen) (is : DisplayProtocol) (rows columns row : ℕ) (characters : List ℕ)
    (cursor : Option Place) → 1 ≤ columns → row < rows → screen_after (make_by is rows columns)
    (shown screen characters cursor) (row_start is (row + 1))
    ≡ shown screen characters (Some (record { row = row; column = 0 }))
takes_start screen protocol.Cd5220 rows columns row characters cursor some within =
    rw (le-leb 1 columns some, le-leb 1 (row + 1) (omega arith), le-leb (row + 1) rows (omega arith))
    (ap (λ k. shown screen characters (Some (record { row = k; column = 0 }))) (omega arith))
takes_start screen protocol.EscPos rows columns row characters cursor some within =
    rw (le-leb 1 columns some, le-leb 1 (row + 1) (omega arith), le-leb (row + 1) rows (omega arith))
    (ap (λ k. shown screen characters (Some (record { row = k; column = 0 }))) (omega arith))

-- a character is put at the cursor
takes_character : (screen : Screen) (is : DisplayProtocol) (rows columns row column b : ℕ) (characters : List ℕ)
    → 32 ≤ b
    → takes (make_by is rows columns) (shown screen characters (Some (record { row = row; column = column }))) b
    ≡ shown screen (slice_set characters (row * columns + column) b) (cursor_in columns row (column + 1))
takes_character screen protocol.Cd5220 rows columns row column b characters le = rw (
  ne_eqb b 27 (λ e. omega arith),
  ne_eqb b 31 (λ e. omega arith),
  ne_eqb b 12 (λ e. omega arith),
  ne_eqb b 11 (λ e. omega arith),
  le-leb 32 b le,
) refl
takes_character screen protocol.EscPos rows columns row column b characters le = rw (
  ne_eqb b 27 (λ e. omega arith),
  ne_eqb b 31 (λ e. omega arith),
  ne_eqb b 12 (λ e. omega arith),
  ne_eqb b 11 (λ e. omega arith),
  le-leb 32 b le,
) refl

-- bytes that are characters
abbrev are_characters : List ℕ → Bool
are_characters bytes = list_all (λ b. nat_le 32 b && nat_le b 126) bytes

-- the characters of a row are shown, up to its last column
takes_row : (screen : Screen) (is : DisplayProtocol) (rows : ℕ) {columns : ℕ} (row column : ℕ)
    (front old new back : List ℕ) → length old ≡ length new → column + length new ≡ columns
    → length front ≡ row * columns + column → are_characters new ≡ true
    → screen_after (make_by is rows columns) (shown screen (front ++ (old ++ back)) (cursor_in columns row column)) new
    ≡ shown screen (front ++ (new ++ back)) (cursor_in columns row columns)
takes_row screen is rows {columns} row column front [] [] back same room at fit =
    ap (λ k. shown screen (front ++ back) (cursor_in columns row k)) (omega arith)
takes_row screen is rows row column front [] (b ∷ new) back same room at fit = let bad : ⊥ = omega arith in absurd bad
takes_row screen is rows row column front (o ∷ old) [] back same room at fit = let bad : ⊥ = omega arith in absurd bad
takes_row screen is rows {columns} row column front (o ∷ old) (b ∷ new) back same room at fit =
    let make = make_by is rows columns in
    let parts = and_parts (nat_le 32 b && nat_le b 126) (are_characters new) fit in
    let le = leb-true 32 b (and_parts (nat_le 32 b) (nat_le b 126) parts.0).0 in
    let here : cursor_in columns row column ≡ Some (record { row = row; column = column }) =
    rw (ne_eqb column columns (λ e. omega arith)) refl in
    ap (λ cursor. fold (takes make) (takes make (shown screen (front ++ ((o ∷ old) ++ back)) cursor) b) new) here
    ∙ ap (λ s. fold (takes make) s new)
    (takes_character screen is rows columns row column b (front ++ ((o ∷ old) ++ back)) le)
    ∙ ap (λ characters. fold (takes make) (shown screen characters (cursor_in columns row (column + 1))) new)
    (set_at front o (old ++ back) b (row * columns + column) at ∙ sym (append_assoc front (b ∷ []) (old ++ back)))
    ∙ takes_row screen is rows row (column + 1) (front ++ b ∷ []) old new back (omega arith) (omega arith)
    (simp length-append (omega arith)) parts.1
    ∙ ap (λ characters. shown screen characters (cursor_in columns row columns))
    (append_assoc front (b ∷ []) (new ++ back))

-- a display that shows characters, with the cursor anywhere
pub record Shows (screen : Screen) (make : Make) (from : Screen) (bytes : List ℕ) (characters : List ℕ) : Type 0 where
  pub cursor : Option Place
  pub is : screen_after make from bytes ≡ shown screen characters cursor

-- one row is shown
takes_one : (screen : Screen) (is : DisplayProtocol) (rows columns row : ℕ) (front back : List ℕ)
    (old new : List DisplayCell) (cursor : Option Place) → 1 ≤ columns → row < rows → length front ≡ row * columns
    → length old ≡ columns → length new ≡ columns → list_all is_character new ≡ true
    → Shows screen (make_by is rows columns) (shown screen (front ++ (characters_of old ++ back)) cursor)
    (row_bytes is (row + 1) old new) (front ++ (characters_of new ++ back))
takes_one screen is rows columns row front back old new cursor some within at old_size new_size fit =
    ⊎_elim (λ (alike : bytes_eq (characters_of old) (characters_of new) ≡ true).
    let same = (bytes_eq-Decides (characters_of old) (characters_of new)).0 alike in
    record { cursor = cursor; is = rw alike (ap (λ cs. shown screen (front ++ (cs ++ back)) cursor) same) })
    (λ (changed : bytes_eq (characters_of old) (characters_of new) ≡ false).
    let make = make_by is rows columns in
    let was = front ++ (characters_of old ++ back) in
    let zero_column : cursor_in columns row 0 ≡ Some (record { row = row; column = 0 }) =
    rw (ne_eqb 0 columns (λ e. omega arith)) refl in
    record {
      cursor = cursor_in columns row columns;
      is = rw changed (fold-append (takes make) (shown screen was cursor) (row_start is (row + 1)) (characters_of new)
          ∙ ap (λ s. fold (takes make) s (characters_of new))
          (takes_start screen is rows columns row was cursor some within)
          ∙ ap (λ c. fold (takes make) (shown screen was c) (characters_of new)) (sym zero_column)
          ∙ takes_row screen is rows row 0 front (characters_of old) (characters_of new) back
          (simp length-map (old_size ∙ sym new_size)) (simp length-map (omega arith)) (omega arith)
          (list_all-map (λ b. nat_le 32 b && nat_le b 126) (λ (cell : DisplayCell). cell.character) new ∙ fit));
    }) (cases_Bool (bytes_eq (characters_of old) (characters_of new)))

-- cells in two parts
in_parts : (columns : ℕ) (cells : List DisplayCell)
    → characters_of cells ≡ characters_of (take columns cells) ++ characters_of (drop columns cells)
in_parts columns cells = ap characters_of (sym (take-append-drop columns cells))
    ∙ map-append (λ (cell : DisplayCell). cell.character) (take columns cells) (drop columns cells)

-- all rows are shown
takes_rows : (screen : Screen) (is : DisplayProtocol) (rows columns n row : ℕ) (front : List ℕ)
    (old new : List DisplayCell) (cursor : Option Place) → 1 ≤ columns → row + n ≤ rows
    → length front ≡ row * columns → length old ≡ n * columns → length new ≡ n * columns
    → list_all is_character new ≡ true → Shows screen (make_by is rows columns)
    (shown screen (front ++ characters_of old) cursor) (rows_bytes is columns (row + 1) n old new)
    (front ++ characters_of new)
takes_rows screen is rows columns zero row front [] [] cursor some within at old_size new_size fit =
    record { cursor = cursor; is = refl }
takes_rows screen is rows columns zero row front (o ∷ old) new cursor some within at old_size new_size fit =
    let bad : ⊥ = omega arith in absurd bad
takes_rows screen is rows columns zero row front [] (b ∷ new) cursor some within at old_size new_size fit =
    let bad : ⊥ = omega arith in absurd bad
takes_rows screen is rows columns (suc n) row front old new cursor some within at old_size new_size fit =
    let make = make_by is rows columns in
    let first_old = take columns old in let first_new = take columns new in
    let rest_old = drop columns old in let rest_new = drop columns new in
    let fits = and_parts (list_all is_character first_new) (list_all is_character rest_new)
    (sym (list_all-append is_character first_new rest_new) ∙ ap (list_all is_character) (take-append-drop columns new)
    ∙ fit) in
    let one = takes_one screen is rows columns row front (characters_of rest_old) first_old first_new cursor some
    (omega arith) at (length-take-le columns old (omega arith)) (length-take-le columns new (omega arith)) fits.0 in
    let next = takes_rows screen is rows columns n (row + 1) (front ++ characters_of first_new) rest_old rest_new
    one.cursor some (omega arith)
    (simp (length-append, length-map) (omega (arith, length-take-le columns new (omega arith))))
    (simp length-drop (omega arith)) (simp length-drop (omega arith)) fits.1 in
    let rest_bytes = rows_bytes is columns (row + 1 + 1) n rest_old rest_new in
    record {
      cursor = next.cursor;
      is = ap (λ cs. screen_after make (shown screen (front ++ cs) cursor)
          (row_bytes is (row + 1) first_old first_new ++ rest_bytes)) (in_parts columns old)
          ∙ fold-append (takes make)
          (shown screen (front ++ (characters_of first_old ++ characters_of rest_old)) cursor)
          (row_bytes is (row + 1) first_old first_new) rest_bytes ∙ ap (λ s. fold (takes make) s rest_bytes) one.is
          ∙ ap (λ cs. fold (takes make) (shown screen cs one.cursor) rest_bytes)
          (sym (append_assoc front (characters_of first_new) (characters_of rest_old))) ∙ next.is
          ∙ ap (λ cs. shown screen cs next.cursor)
          (append_assoc front (characters_of first_new) (characters_of rest_new)
          ∙ ap (λ cs. front ++ cs) (sym (in_parts columns new)));
    }

-- what a whole display has
whole_count : (display : Display) → is_whole display ≡ true → (1 ≤ display.columns)
    × (length display.cells ≡ display.rows * display.columns) × (list_all is_character display.cells ≡ true)
whole_count display whole =
    let count = length display.cells == display.rows * display.columns in
    let parts = and_parts (nat_le 1 display.columns && nat_le display.rows 255 && count)
    (list_all is_character display.cells) whole in
    let sized = and_parts (nat_le 1 display.columns && nat_le display.rows 255) count parts.0 in
    let some = and_parts (nat_le 1 display.columns) (nat_le display.rows 255) sized.0 in (
      leb-true 1 display.columns some.0,
      eqb-true (length display.cells) (display.rows * display.columns) sized.1,
      parts.1,
    )

-- a display that shows the old cells shows the new ones then
pub becomes : (is : DisplayProtocol) (old new : Display) → can_become old new ≡ true → (screen : Screen)
    → IsShowing (characters_of old.cells) screen → ShowsOnly screen (characters_of new.cells)
    (screen_after (make_of is new) screen (rows_bytes is new.columns 1 new.rows old.cells new.cells))
becomes is old new can screen showing =
    let parts = and_parts (same_size old new && is_whole old) (is_whole new) can in
    let sizes = and_parts (same_size old new) (is_whole old) parts.0 in
    let same = and_parts (old.rows == new.rows) (old.columns == new.columns) sizes.0 in
    let old_count = whole_count old sizes.1 in
    let new_count = whole_count new parts.1 in
    let old_size : length old.cells ≡ new.rows * new.columns =
    old_count.1 ∙ ap (λ k. k * old.columns) (eqb-true old.rows new.rows same.0)
    ∙ ap (λ k. new.rows * k) (eqb-true old.columns new.columns same.1) in
    let all = takes_rows screen is new.rows new.columns new.rows 0 [] old.cells new.cells screen.cursor new_count.0
    (omega arith) (omega arith) old_size new_count.1 new_count.2 in
    let begins : screen ≡ shown screen (characters_of old.cells) screen.cursor =
    ap (λ begun. record screen { begun = begun }) showing.whole
    ∙ ap (λ known. record screen { is_known = known; begun = [] }) showing.known
    ∙ ap (λ cs. record screen { characters = cs; is_known = true; begun = [] }) showing.shown in
    let bytes = rows_bytes is new.columns 1 new.rows old.cells new.cells in
    subst (λ (s : Screen). ShowsOnly screen (characters_of new.cells) s) (sym (ap (λ s. screen_after (make_of is new) s
    bytes) begins ∙ all.is))
    (record { shows = record { shown = refl; known = refl; whole = refl }; unknown = refl })

-- blanks are spaces
blank_characters : (n : ℕ) → characters_of (replicate n blank) ≡ replicate n 32
blank_characters zero = refl
blank_characters (suc n) = ap (λ characters. 32 ∷ characters) (blank_characters n)

-- a display that was initialized and cleared shows blanks
cleared_at_start : (make : Make) (screen : Screen) → ShowsOnly screen (replicate (make.rows * make.columns) 32)
    (screen_after make (record screen { begun = [] }) (27 ∷ 64 ∷ 12 ∷ []))
cleared_at_start make screen = elim make.protocol as (λ is. ShowsOnly screen (replicate (make.rows * make.columns) 32)
    (screen_after (record make { protocol = is }) (record screen { begun = [] }) (27 ∷ 64 ∷ 12 ∷ []))) [
      | protocol.Cd5220 ↦ record { shows = record { shown = refl; known = refl; whole = refl }; unknown = refl }
      | protocol.EscPos ↦ record { shows = record { shown = refl; known = refl; whole = refl }; unknown = refl }
    ]

pub starts_blank : (make : Make) (screen : Screen) → screen.begun ≡ []
    → ShowsOnly screen (characters_of (blank_display make.rows make.columns).cells)
    (screen_after make screen (27 ∷ 64 ∷ 12 ∷ []))
starts_blank make screen whole =
    let start : screen ≡ record screen { begun = [] } = ap (λ begun. record screen { begun = begun }) whole in
    subst (λ (characters : List ℕ). ShowsOnly screen characters (screen_after make screen (27 ∷ 64 ∷ 12 ∷ [])))
    (sym (blank_characters (make.rows * make.columns))) (subst (λ (s : Screen). ShowsOnly screen
    (replicate (make.rows * make.columns) 32) (screen_after make s (27 ∷ 64 ∷ 12 ∷ []))) (sym start)
    (cleared_at_start make screen))
