-- A text on the strip, byte by byte.
use Rattle.std.proofs.Common.{◌≡◌, ◌≢◌, ◌++◌, ◌∷◌, ℕ, ◌+◌, ◌*◌, ◌/◌, ◌%◌, ◌<◌, List, [], length, take, get_or, ap, refl}
use Rattle.std.proofs.Common.{arith, append_assoc}
use Rattle.std.proofs.lemmas.Bool.Decides.{nat_tests}
use Rattle.std.proofs.lemmas.List.{append-nil, length-append, take_more}
use Rattle.std.proofs.lemmas.Nat.{div-add-mod'}
use Rattle.std.proofs.Math.Nat.{div-eq_of_lt, mod-eq_of_lt, mul-add-div_right, mul-add-mod_self_right}
use Rattle.pos_service.specs.declared.display_text.Place.{Place}
use Rattle.pos_service.specs.Displays.{Placed, Strip, place_of, run_from, right_of, with_run, returned, fed, with_text}
use Rattle.pos_service.specs.Displays.{text_from, place_in_window}

abbrev pub place_at : ℕ → ℕ → Place
place_at row column = record { row = row; column = column }

abbrev pub strip_at : List Placed → Place → Strip
strip_at placed place = record { placed = placed; place = place }

-- right of the last column the next character stands in the next row
pub first_full : (columns : ℕ) (place : Place) → 0 < columns → place.column ≡ columns
    → place_of columns place 0 ≡ place_at (place.row + 1) 0
first_full columns place some e =
    let column : place.column + 0 ≡ 1 * columns + 0 = omega arith in
    rw (column, mul-add-div_right some 1 0, mul-add-mod_self_right 1 columns 0, div-eq_of_lt some, mod-eq_of_lt some)

-- elsewhere it stands at the place
pub first_free : (columns : ℕ) (place : Place) → place.column < columns → place_of columns place 0 ≡ place
first_free columns place lt = grind (arith, div-eq_of_lt lt, mod-eq_of_lt lt)

-- where a run stands that begins behind character k of another
place_behind : (columns : ℕ) (start : Place) (k j : ℕ) → 0 < columns
    → place_of columns (right_of (place_of columns start k)) j ≡ place_of columns start (k + 1 + j)
place_behind columns start k j some =
    let q = (start.column + k) / columns in
    let column = (start.column + k) % columns + 1 + j in
    let at : start.column + (k + 1 + j) ≡ q * columns + column =
    omega (arith, div-add-mod' (start.column + k) columns) in
    rw (at, mul-add-div_right some q column, mul-add-mod_self_right q columns column)
    (ap (λ n. place_at n (column % columns)) (omega arith))

run_behind : (columns : ℕ) (start : Place) (k j : ℕ) (run : List ℕ) → 0 < columns
    → run_from columns (right_of (place_of columns start k)) j run ≡ run_from columns start (k + 1 + j) run
run_behind columns start k j [] some = refl
run_behind columns start k j (b ∷ run) some =
    grind (arith, place_behind columns start k j some, run_behind columns start k (j + 1) run some)

run_append : (columns : ℕ) (start : Place) (k : ℕ) (run more : List ℕ) → run_from columns start k
    (run ++ more) ≡ run_from columns start k run ++ run_from columns start (k + length run) more
run_append columns start k [] more = grind arith
run_append columns start k (b ∷ run) more = grind (arith, run_append columns start (k + 1) run more)

with_run_append : (columns : ℕ) (run more : List ℕ) (strip : Strip) → 0 < columns
    → with_run columns (run ++ more) strip ≡ with_run columns more (with_run columns run strip)
with_run_append columns [] more strip some = refl
with_run_append columns (b ∷ run) [] strip some = rw (append-nil run)
with_run_append columns (b ∷ run) (c ∷ more) strip some =
    let last = place_behind columns strip.place (length run) (length more) some in
    let behind = run_behind columns strip.place (length run) 0 (c ∷ more) some in
    grind (arith, append_assoc, run_append, length-append)

text_behind : (columns : ℕ) (run more bytes : List ℕ) (strip : Strip) → 0 < columns
    → with_text columns (run ++ more) bytes strip ≡ with_text columns more bytes (with_run columns run strip)
text_behind columns run more [] strip some = with_run_append columns run more strip some
text_behind columns run more (b ∷ bytes) strip some =
    grind (arith, with_run_append, append_assoc, text_behind columns run (more ++ b ∷ []) bytes strip some)

-- a text behind another
pub with_text_append : (columns : ℕ) (run xs ys : List ℕ) (strip : Strip) → 0 < columns
    → with_text columns run (xs ++ ys) strip ≡ with_text columns [] ys (with_text columns run xs strip)
with_text_append columns run [] ys strip some = rw (append-nil run) at (text_behind columns run [] ys strip some)
with_text_append columns run (b ∷ xs) ys strip some =
    let old = with_run columns run strip in
    grind (
      arith,
      with_text_append columns [] xs ys (fed old) some,
      with_text_append columns [] xs ys (returned old) some,
      with_text_append columns (run ++ b ∷ []) xs ys strip some,
    )

-- one character as a text
pub character_text : (columns b : ℕ) (strip : Strip) → b ≢ 10 → b ≢ 13
    → with_text columns [] (b ∷ []) strip ≡ with_run columns (b ∷ []) strip
character_text columns b strip e f = grind (arith, nat_tests)

-- a line feed as a text
pub line_feed_text : (columns b : ℕ) (strip : Strip) → b ≡ 10 → with_text columns [] (b ∷ []) strip ≡ fed strip
line_feed_text columns b strip e = grind (arith, nat_tests)

-- the cursor after a character that stands at its place
pub cursor_free : (rows columns b : ℕ) (place : Place) (strip : Strip) → b ≢ 10 → b ≢ 13 → place.column < columns
    → place ≡ place_in_window rows strip.place
    → place_at place.row (place.column + 1) ≡ place_in_window rows (with_text columns [] (b ∷ []) strip).place
cursor_free rows columns b place strip e f lt h = grind (arith, character_text, first_free)

-- a text and one byte more
pub text_more : (columns : ℕ) (start : Place) (bytes : List ℕ) (i : ℕ) → 0 < columns → i < length bytes
    → text_from columns start (take (i + 1) bytes) ≡ with_text columns [] (get_or bytes i 0 ∷ [])
    (text_from columns start (take i bytes))
text_more columns start bytes i some lt = rw (take_more bytes i 0 lt)
    (with_text_append columns [] (take i bytes) (get_or bytes i 0 ∷ []) (strip_at [] start) some)
