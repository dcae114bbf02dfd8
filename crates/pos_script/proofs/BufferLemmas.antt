-- What a line buffer keeps of a line as it goes on, at its line feed, and at the end of the input.
use Rattle.std.proofs.Common.{Bool, List, [], eqb, length, true, ℕ, ◌++◌, ◌+◌, ◌-◌, ◌<◌, ◌∷◌, ◌≡◌}
use Rattle.std.proofs.Common.{get_or, take, drop, ap, sym, ◌∙◌, subst, refl, arith, append-nil, length-append}
use Rattle.std.proofs.Common.{take-append-drop, append_assoc}
use Rattle.std.proofs.lemmas.List.{drop_more, get_or-append-add, length-take, take_all, take_rest}
use Rattle.std.proofs.Math.Seq.{take-append-add}
use Rattle.std.proofs.lemmas.List.Folds.{list_all-append}
use Rattle.std.proofs.lemmas.Bool.{and_parts}
use Rattle.std.proofs.lemmas.Bool.Decides.{nat_tests}
use Rattle.pos_script.specs.declared.line_buffer.EndedLine.TheVariants as ended
use Rattle.pos_script.specs.declared.line_buffer.Line.{Line}
use Rattle.pos_script.specs.declared.line_buffer.LongLineKind.{LongLineKind}
use Rattle.pos_script.specs.Lines.{pieces, complete_lines, unfinished, lines_of, last_line, without_cr, is_nothing}
use Rattle.pos_script.specs.Lines.{is_plain, is_space}
use Rattle.pos_script.specs.LineBuffers.{Kept, EndsInput, EndsLine, IsHeld, IsLine, StandsFor, are_plain, have_no_feed}
use Rattle.pos_script.specs.LineBuffers.{is_blank, is_comment, is_kept_nothing, is_no_feed, kept_ended, kept_of}
use Rattle.pos_script.specs.LineBuffers.{kept_with, look_of, look_with}
use Rattle.pos_script.proofs.LineLemmas.{adds_lines, adds_rest, ends_lines, ends_rest, two_parts}

-- a carriage return at the end of a line is one at the end of its last part
without_cr_behind : (xs : List ℕ) (y : ℕ) (ys : List ℕ) → without_cr (xs ++ (y ∷ ys)) ≡ xs ++ without_cr (y ∷ ys)
without_cr_behind xs y ys =
    let m = length (y ∷ ys) - 1 in
    let len : length (xs ++ (y ∷ ys)) - 1 ≡ length xs + m = omega (arith, length-append xs (y ∷ ys)) in
    rw (len, get_or-append-add xs (y ∷ ys) m 0, take-append-add xs (y ∷ ys) m) (grind arith)

look_nothing : (look : LongLineKind) → look_with look [] ≡ look
look_nothing look = grind arith

-- how a line looks with bytes behind it
pub look_more : (xs ys : List ℕ) → 0 < length xs → look_with (look_of xs) ys ≡ look_of (xs ++ ys)
look_more [] ys lt = absurd (omega (arith, lt))
look_more (x ∷ xs) [] lt = look_nothing (look_of (x ∷ xs)) ∙ ap look_of (sym (append-nil (x ∷ xs)))
look_more (x ∷ xs) (y ∷ ys) lt =
    let all = list_all-append is_space (x ∷ xs) (y ∷ ys) in
    let almost =
    ap is_blank (without_cr_behind (x ∷ xs) y ys) ∙ list_all-append is_space (x ∷ xs) (without_cr (y ∷ ys)) in
    grind arith

-- what is kept of a line with bytes behind it
pub kept_more : (xs ys : List ℕ) → kept_with (kept_of xs) ys ≡ kept_of (xs ++ ys)
kept_more xs ys =
    let count = length-append xs ys in
    let more = look_more xs ys in
    grind (arith, nat_tests)

-- a line that is blank is so without a carriage return
blank_kept : (xs : List ℕ) → is_blank xs ≡ true → is_blank (without_cr xs) ≡ true
blank_kept xs h =
    let n = length xs - 1 in
    let front : is_blank (take n xs) ≡ true =
    (and_parts _ _ (sym (list_all-append is_space (take n xs) (drop n xs)) ∙ rw take-append-drop h)).0 in
    grind arith

comment_kept : (xs : List ℕ) → 1 < length xs → is_comment (without_cr xs) ≡ is_comment xs
comment_kept [] lt = absurd (omega (arith, lt))
comment_kept (x ∷ []) lt = absurd (omega (arith, lt))
comment_kept (x ∷ y ∷ ys) lt = ap is_comment (without_cr_behind (x ∷ []) y ys)

-- at its line feed a line is held
pub held_ended : (line : List ℕ) → IsHeld (kept_ended (kept_of line)) (without_cr line)
held_ended line =
    let blank = blank_kept line in
    let comment = comment_kept line in
    let count = length-take (length line - 1) line in
    grind (arith, nat_tests)

held_last : (line : List ℕ) → IsHeld (kept_of line) line
held_last line = grind (arith, nat_tests)

pub nothing_long : (xs : List ℕ) → eqb (length xs) 0 ≡ is_nothing xs
nothing_long xs = grind (arith, nat_tests)

nothing_kept : (line : List ℕ) → is_kept_nothing (kept_of line) ≡ is_nothing line
nothing_kept line = grind arith

-- at the end of the input
pub input_ends : (read : List ℕ) {kept : Kept} {e : Bool} → e ≡ is_kept_nothing kept → StandsFor kept read
    → EndsInput read e kept
input_ends read {kept} is stands =
    let same = is ∙ ap is_kept_nothing stands ∙ nothing_kept (unfinished read) in
    let split : lines_of read ≡ complete_lines read ++ last_line (unfinished read) = two_parts (pieces 10 read) in
    let held : IsHeld kept (unfinished read) = rw stands (held_last (unfinished read)) in
    grind (arith, append-nil)

-- bytes without a line feed come behind what was read
pub adds_to : (read bytes : List ℕ) {old new : Kept} → have_no_feed bytes ≡ true → new ≡ kept_with old bytes
    → StandsFor old read → StandsFor new (read ++ bytes)
adds_to read bytes free adds stands = adds ∙ ap (λ k. kept_with k bytes) stands ∙ kept_more (unfinished read) bytes
    ∙ ap kept_of (sym (adds_rest read bytes free))

-- a piece without a line feed
pub feeds_all : (read piece : List ℕ) {n : ℕ} {old new : Kept} → have_no_feed (take n piece) ≡ true → n ≡ length piece
    → new ≡ kept_with old (take n piece) → StandsFor old read
    → (complete_lines (read ++ piece) ≡ complete_lines read) × StandsFor new (read ++ piece)
feeds_all read piece {n} {old} free is adds stands =
    let all : take n piece ≡ piece = take_all n piece (omega (arith, is)) in (
      adds_lines read piece (ap have_no_feed (sym all) ∙ free),
      adds_to read piece (ap have_no_feed (sym all) ∙ free) (adds ∙ ap (λ bs. kept_with old bs) all) stands,
    )

nothing_is : {xs : List ℕ} → is_nothing xs ≡ true → xs ≡ []
nothing_is h = grind arith

-- a piece whose first line feed stands at a place: what is before it, with it, and what is behind it
cut_at : (piece : List ℕ) (n : ℕ) → n < length piece → get_or piece n 0 ≡ 10
    → piece ≡ (take n piece ++ 10 ∷ []) ++ take (length piece - (n + 1)) (drop (n + 1) piece)
cut_at piece n lt feed =
    let front = take n piece in
    sym (take-append-drop n piece) ∙ ap (λ x. front ++ x) (drop_more piece n 0 lt ∙ ap (λ b. b ∷ drop (n + 1) piece)
    feed) ∙ sym (append_assoc front (10 ∷ []) (drop (n + 1) piece)) ∙ ap (λ x. (front ++ 10 ∷ []) ++ x)
    (sym (take_rest piece (n + 1)))

-- where nothing is kept, a piece with its first line feed at a place, before which this line stands
pub feeds_whole : (read : List ℕ) {piece : List ℕ} {n : ℕ} {kept : Kept} (line : Line)
    → have_no_feed (take n piece) ≡ true → n < length piece → get_or piece n 0 ≡ 10 → is_kept_nothing kept ≡ true
    → IsLine line (without_cr (take n piece)) → StandsFor kept read
    → (taken : List ℕ) × (piece ≡ taken ++ take (length piece - (n + 1)) (drop (n + 1) piece))
    × EndsLine read taken (ended.InPiece line) kept
feeds_whole read {piece} {n} line free lt feed nothing is stands =
    let front = take n piece in
    let none : unfinished read ≡ [] =
    nothing_is (sym (nothing_kept (unfinished read)) ∙ ap is_kept_nothing (sym stands) ∙ nothing) in (
      front ++ 10 ∷ [],
      cut_at piece n lt feed,
      (
        without_cr (unfinished read ++ front),
        ends_lines read front free,
        ends_rest read front free,
        subst (λ u. IsLine line (without_cr (u ++ front))) (sym none) is,
      ),
    )

-- a piece with its first line feed at a place
pub feeds_line : (read : List ℕ) {piece : List ℕ} {n : ℕ} {old mid new : Kept} → have_no_feed (take n piece) ≡ true
    → n < length piece → get_or piece n 0 ≡ 10 → mid ≡ kept_with old (take n piece) → new ≡ kept_ended mid
    → StandsFor old read → (taken : List ℕ) × (piece ≡ taken ++ take (length piece - (n + 1)) (drop (n + 1) piece))
    × EndsLine read taken ended.Held new
feeds_line read {piece} {n} {new} free lt feed adds ends stands =
    let front = take n piece in
    let line = unfinished read ++ front in
    let held : new ≡ kept_ended (kept_of line) =
    ends ∙ ap kept_ended (adds ∙ ap (λ k. kept_with k front) stands ∙ kept_more (unfinished read) front) in (
      front ++ 10 ∷ [],
      cut_at piece n lt feed,
      (
        without_cr line,
        ends_lines read front free,
        ends_rest read front free,
        subst (λ k. IsHeld k (without_cr line)) (sym held) (held_ended line),
      ),
    )

plain_byte : (b : ℕ) → is_plain b ≡ true → is_no_feed b ≡ true
plain_byte b h = grind (arith, nat_tests)

-- plain bytes have no line feed
pub plain_no_feed : (bytes : List ℕ) → are_plain bytes ≡ true → have_no_feed bytes ≡ true
plain_no_feed [] h = refl
plain_no_feed (b ∷ bs) h =
    let parts = and_parts (is_plain b) (are_plain bs) h in
    rw (plain_byte b parts.0) (plain_no_feed bs parts.1)
