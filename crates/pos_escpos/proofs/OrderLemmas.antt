-- What an order adds to a receipt fits its printer.
use Rattle.std.proofs.Common.{◌≡◌, ℕ, zero, suc, ◌+◌, ◌≤◌, Bool, true, false, List, [], ◌∷◌, ◌++◌, length, take, drop}
use Rattle.std.proofs.Common.{replicate, refl, ap, sym, ◌∙◌, length-drop, arith, cond, ◌==◌, ◌&&◌, nat_le, ⊎_elim}
use Rattle.std.proofs.Common.{bytes_eq}
use Rattle.std.specs.Prelude.{codes}
use Rattle.std.proofs.lemmas.Bool.{le-leb, and_parts, leb-true, cases_Bool}
use Rattle.std.proofs.lemmas.List.{length-map, length-take, take-append-drop}
use Rattle.std.proofs.lemmas.List.Folds.{list_all-append, list_all-map}
use Rattle.std.specs.List.{list_all, prefix_len}
use Rattle.pos_service.specs.declared.receipt_text.Alignment.{Alignment}
use Rattle.pos_service.specs.declared.receipt_text.Alignment.TheVariants as alignment
use Rattle.pos_service.specs.declared.receipt_text.Piece.{Piece}
use Rattle.pos_service.specs.declared.receipt_text.Piece.TheVariants as piece
use Rattle.pos_service.specs.declared.receipt_text.PrintedCharacter.{PrintedCharacter}
use Rattle.pos_service.specs.Receipts.{Item, Line, CutAt, Printout, Reading, SegmentCharacter, Style, after_items}
use Rattle.pos_service.specs.Receipts.{begun_segment, characters_of, chunks_of, cut_pieces, escape_sequence}
use Rattle.pos_service.specs.Receipts.{first_alignment, in_chunks, in_style, is_printable_byte, is_digit, is_inner}
use Rattle.pos_service.specs.Receipts.{is_in_range, is_printable_text, is_upper, line_end_pieces, lines_if_begun}
use Rattle.pos_service.specs.Receipts.{lines_of, numbered_pieces, number_or, pieces, pieces_past, plain, printed_by}
use Rattle.pos_service.specs.Receipts.{printed_from, reading_after_escape, reading_at, sequence_pieces, starts_with}
use Rattle.pos_escpos.specs.PrinterBytes.{FitsPrinter, all_fit, is_character, item_fits}

-- a piece that is no character, or one that a printer prints
abbrev pub is_plain_piece : Piece → Bool
is_plain_piece (piece.Character b) = nat_le 32 b && nat_le b 126
is_plain_piece piece.LineEnd = true
is_plain_piece piece.Return = true
is_plain_piece (piece.Cut n) = true
is_plain_piece piece.Bold = true
is_plain_piece (piece.Align to) = true
is_plain_piece piece.Normal = true
is_plain_piece piece.OutOfRange = true

abbrev pub are_plain : List Piece → Bool
are_plain ps = list_all is_plain_piece ps

-- either of two
either : (b : Bool) (xs ys : List Piece) → are_plain xs ≡ true → are_plain ys ≡ true → are_plain (cond b xs ys) ≡ true
either true xs ys first second = first
either false xs ys first second = second

line_ends_plain : (n : ℕ) → are_plain (replicate n piece.LineEnd) ≡ true
line_ends_plain zero = refl
line_ends_plain (suc n) = line_ends_plain n

pub cut_plain : (n : ℕ) → are_plain (cut_pieces n) ≡ true
cut_plain n = either (n == 0) [] (cond (nat_le n 100) (piece.Cut n ∷ []) (piece.OutOfRange ∷ [])) refl
    (either (nat_le n 100) (piece.Cut n ∷ []) (piece.OutOfRange ∷ []) refl refl)

feed_plain : (n : ℕ) → are_plain (line_end_pieces n) ≡ true
feed_plain n = either (nat_le n 255) (replicate n piece.LineEnd) (piece.OutOfRange ∷ []) (line_ends_plain n) refl

numbered_plain : (digits letters : List ℕ) → are_plain (numbered_pieces digits letters) ≡ true
numbered_plain digits letters =
    either (bytes_eq letters (codes "P")) (cut_pieces (number_or 100 digits)) _ (cut_plain (number_or 100 digits))
    (either (bytes_eq letters (codes "fP")) (cut_pieces (number_or 100 digits)) _ (cut_plain (number_or 100 digits))
    (either (bytes_eq letters (codes "lF")) (line_end_pieces (number_or 1 digits)) []
    (feed_plain (number_or 1 digits)) refl))

sequence_plain : (bytes : List ℕ) → are_plain (sequence_pieces bytes) ≡ true
sequence_plain bytes =
    either (bytes_eq bytes (codes "bC")) _ _ refl (either (bytes_eq bytes (codes "cA")) _ _ refl
    (either (bytes_eq bytes (codes "rA")) _ _ refl (either (bytes_eq bytes (codes "N")) _ _ refl
    (numbered_plain (take (prefix_len is_digit bytes) bytes) (drop (prefix_len is_digit bytes) bytes)))))

escape_plain : (bs : List ℕ) → are_plain (escape_sequence bs).pieces ≡ true
escape_plain bs =
    elim (starts_with is_upper (drop (prefix_len is_inner bs) bs)) as (λ ends. are_plain (cond {A = Reading} ends
    (record { pieces = sequence_pieces (take (prefix_len is_inner bs + 1) bs); more = prefix_len is_inner bs + 2 })
    (record { pieces = []; more = 1 })).pieces ≡ true) [
      | true ↦ sequence_plain (take (prefix_len is_inner bs + 1) bs)
      | false ↦ refl
    ]

after_escape_plain : (bs : List ℕ) → are_plain (reading_after_escape bs).pieces ≡ true
after_escape_plain [] = refl
after_escape_plain (b ∷ bs) = elim (b == 124) as
    (λ bar. are_plain (cond {A = Reading} bar (escape_sequence bs) (record { pieces = []; more = 0 })).pieces ≡ true) [
      | true ↦ escape_plain bs
      | false ↦ refl
    ]

-- what a byte of a text stands for is plain
byte_plain : (b : ℕ) (bs : List ℕ) → is_printable_byte b ≡ true → are_plain (reading_at b bs).pieces ≡ true
byte_plain b bs ok = ⊎_elim (λ (esc : (b == 27) ≡ true). rw esc (after_escape_plain bs))
    (λ (no_esc : (b == 27) ≡ false). ⊎_elim (λ (feed : (b == 10) ≡ true). rw (no_esc, feed) refl)
    (λ (no_feed : (b == 10) ≡ false). ⊎_elim (λ (return : (b == 13) ≡ true). rw (no_esc, no_feed, return)
    (either (starts_with (λ next. next == 10) bs) [] (piece.Return ∷ []) refl refl)) (λ (no_return : (b == 13) ≡ false).
    let within : (nat_le 32 b && nat_le b 126) ≡ true = rw (no_feed, no_return, no_esc) at ok in
    rw (no_esc, no_feed, no_return, within) refl) (cases_Bool (b == 13))) (cases_Bool (b == 10))) (cases_Bool (b == 27))

-- what a text stands for is plain
pub text_plain : (n : ℕ) (bytes : List ℕ) → list_all is_printable_byte bytes ≡ true
    → are_plain (pieces_past n bytes) ≡ true
text_plain n [] ok = refl
text_plain (suc n) (b ∷ bs) ok = text_plain n bs (and_parts (is_printable_byte b) (list_all is_printable_byte bs) ok).1
text_plain zero (b ∷ bs) ok =
    let parts = and_parts (is_printable_byte b) (list_all is_printable_byte bs) ok in
    list_all-append is_plain_piece (reading_at b bs).pieces (pieces_past (reading_at b bs).more bs)
    ∙ rw (byte_plain b bs parts.0, text_plain (reading_at b bs).more bs parts.1) refl

-- the characters of a segment are characters
abbrev pub is_plain_segment : List SegmentCharacter → Bool
is_plain_segment segment = list_all (λ s. is_character s.character) segment

-- the same, with a line buffer that is no longer than a line
pub record FitsChunks (chars columns : ℕ) (made : Printout) : Type 0 where
  pub fits : FitsPrinter columns made
  pub short : length made.buffer ≤ chars

both_fit : (columns : ℕ) (xs ys : List Item) → all_fit columns xs ≡ true → all_fit columns ys ≡ true
    → all_fit columns (xs ++ ys) ≡ true
both_fit columns xs ys first second = list_all-append (item_fits columns) xs ys ∙ rw (first, second) refl

line_fits : {columns : ℕ} (a : Alignment) (cs : List PrintedCharacter) → list_all is_character cs ≡ true
    → length cs ≤ columns → all_fit columns (Line a cs ∷ []) ≡ true
line_fits {columns} a cs fine short = rw (le-leb (length cs) columns short, fine) refl

characters_plain : (segment : List SegmentCharacter) → is_plain_segment segment ≡ true
    → list_all is_character (characters_of segment) ≡ true
characters_plain segment fine = list_all-map is_character (λ (s : SegmentCharacter). s.character) segment ∙ fine

-- the front and the rest of a plain segment
parts_plain : (n : ℕ) (segment : List SegmentCharacter) → is_plain_segment segment ≡ true
    → (is_plain_segment (take n segment) ≡ true) × (is_plain_segment (drop n segment) ≡ true)
parts_plain n segment fine =
    let test = λ (s : SegmentCharacter). is_character s.character in
    and_parts (is_plain_segment (take n segment)) (is_plain_segment (drop n segment))
    (sym (list_all-append test (take n segment) (drop n segment)) ∙ ap is_plain_segment (take-append-drop n segment)
    ∙ fine)

chunks_fit : (most chars columns : ℕ) (segment : List SegmentCharacter) → length segment ≤ most → 1 ≤ chars
    → chars ≤ columns → is_plain_segment segment ≡ true → FitsChunks chars columns (in_chunks most chars segment)
chunks_fit zero chars columns segment most some within fine = record {
  fits = record { items = refl; buffer = characters_plain segment fine };
  short = simp length-map (omega arith);
}
chunks_fit (suc most) chars columns segment le some within fine =
    ⊎_elim (λ (all : nat_le (length segment) chars ≡ true). rw all (record {
      fits = record { items = refl; buffer = characters_plain segment fine };
      short = simp length-map (leb-true (length segment) chars all);
    })) (λ (more : nat_le (length segment) chars ≡ false).
    let parts = parts_plain chars segment fine in
    let rest =
    chunks_fit most chars columns (drop chars segment) (simp length-drop (omega arith)) some within parts.1 in
    let front = characters_of (take chars segment) in
    let a = first_alignment (drop chars segment) in
    rw more (record {
      fits = record {
        items = both_fit columns (Line a front ∷ []) (in_chunks most chars (drop chars segment)).items
            (line_fits a front (characters_plain (take chars segment) parts.0)
            (simp (length-map, length-take) (omega arith))) rest.fits.items;
        buffer = rest.fits.buffer;
      };
      short = rest.short;
    })) (cases_Bool (nat_le (length segment) chars))

lines_fit : (chars : ℕ) {columns : ℕ} (at_end : Alignment) (segment : List SegmentCharacter) → 1 ≤ chars
    → chars ≤ columns → is_plain_segment segment ≡ true → all_fit columns (lines_of chars at_end segment) ≡ true
lines_fit chars {columns} at_end segment some within fine =
    let chunks = chunks_fit (length segment) chars columns segment (omega arith) some within fine in
    both_fit columns (chunks_of chars segment).items
    (Line at_end (chunks_of chars segment).buffer ∷ []) chunks.fits.items
    (line_fits at_end (chunks_of chars segment).buffer chunks.fits.buffer (omega (arith, chunks.short)))

begun_fit : {chars columns : ℕ} (at_end : Alignment) (segment : List SegmentCharacter) → 1 ≤ chars → chars ≤ columns
    → is_plain_segment segment ≡ true → all_fit columns (lines_if_begun chars at_end segment) ≡ true
begun_fit at_end [] some within fine = refl
begun_fit {chars} at_end (s ∷ segment) some within fine = lines_fit chars at_end (s ∷ segment) some within fine

after_fit : {columns : ℕ} (items : List Item) {made : Printout} → all_fit columns items ≡ true
    → FitsPrinter columns made → FitsPrinter columns (after_items items made)
after_fit {columns} items {made} fit h = record {
  items = both_fit columns items made.items fit h.items;
  buffer = h.buffer;
}

segment_push : (style : Style) (segment : List SegmentCharacter) (byte : ℕ) → is_plain_segment segment ≡ true
    → (nat_le 32 byte && nat_le byte 126) ≡ true → is_plain_segment (segment ++ in_style style byte ∷ []) ≡ true
segment_push style segment byte fine within =
    list_all-append (λ (s : SegmentCharacter). is_character s.character) segment (in_style style byte ∷ [])
    ∙ rw (fine, within) refl

-- neither bold nor aligned
abbrev neutral : Style
neutral = plain

-- what plain pieces make fits
pub pieces_fit : {chars columns : ℕ} (style : Style) (segment : List SegmentCharacter) (ps : List Piece) → 1 ≤ chars
    → chars ≤ columns → is_plain_segment segment ≡ true → are_plain ps ≡ true
    → FitsPrinter columns (printed_from chars style segment ps)
pieces_fit {chars} {columns} style segment [] some within fine ok =
    (chunks_fit (length segment) chars columns segment (omega arith) some within fine).fits
pieces_fit style segment (piece.Character byte ∷ ps) some within fine ok =
    let parts = and_parts (nat_le 32 byte && nat_le byte 126) (are_plain ps) ok in
    pieces_fit style (segment ++ in_style style byte ∷ []) ps some within
    (segment_push style segment byte fine parts.0) parts.1
pieces_fit {chars} style segment (piece.LineEnd ∷ ps) some within fine ok =
    after_fit (lines_of chars style.alignment segment) (lines_fit chars style.alignment segment some within fine)
    (pieces_fit style [] ps some within refl ok)
pieces_fit {chars} style segment (piece.Return ∷ ps) some within fine ok =
    after_fit (lines_if_begun chars style.alignment segment) (begun_fit style.alignment segment some within fine)
    (pieces_fit style [] ps some within refl ok)
pieces_fit {chars} {columns} style segment (piece.Cut n ∷ ps) some within fine ok =
    after_fit (lines_if_begun chars style.alignment segment ++ CutAt n ∷ [])
    (both_fit columns (lines_if_begun chars style.alignment segment) (CutAt n ∷ [])
    (begun_fit style.alignment segment some within fine) refl) (pieces_fit style [] ps some within refl ok)
pieces_fit style segment (piece.Bold ∷ ps) some within fine ok =
    pieces_fit (record style { is_bold = true }) segment ps some within fine ok
pieces_fit style segment (piece.Align to ∷ ps) some within fine ok =
    pieces_fit (record style { alignment = to }) segment ps some within fine ok
pieces_fit style segment (piece.Normal ∷ ps) some within fine ok = pieces_fit neutral segment ps some within fine ok
pieces_fit style segment (piece.OutOfRange ∷ ps) some within fine ok = pieces_fit style segment ps some within fine ok

-- what plain pieces make behind a line buffer of characters fits
pub request_fits : {chars columns : ℕ} (buffer : List PrintedCharacter) (ps : List Piece) → 1 ≤ chars → chars ≤ columns
    → list_all is_character buffer ≡ true → are_plain ps ≡ true → FitsPrinter columns (printed_by chars buffer ps)
request_fits buffer ps some within fine ok = pieces_fit neutral (begun_segment buffer) ps some within
    (list_all-map (λ (s : SegmentCharacter). is_character s.character)
    (λ (c : PrintedCharacter). record { character = c; alignment = alignment.Left }) buffer ∙ fine) ok

-- a text that a printer takes, and a cut, are plain
pub text_fits : (chars columns : ℕ) (buffer : List PrintedCharacter) (bytes : List ℕ) → 1 ≤ chars → chars ≤ columns
    → list_all is_character buffer ≡ true → is_printable_text bytes ≡ true
    → FitsPrinter columns (printed_by chars buffer (pieces bytes))
text_fits chars columns buffer bytes some within characters ok =
    let parts = and_parts (nat_le (length bytes) 4096 && list_all is_printable_byte bytes)
    (list_all is_in_range (pieces bytes)) ok in
    let printable = and_parts (nat_le (length bytes) 4096) (list_all is_printable_byte bytes) parts.0 in
    request_fits buffer (pieces bytes) some within characters (text_plain 0 bytes printable.1)

pub cut_fits : (chars columns : ℕ) (buffer : List PrintedCharacter) (n : ℕ) → 1 ≤ chars → chars ≤ columns
    → list_all is_character buffer ≡ true → FitsPrinter columns (printed_by chars buffer (cut_pieces n))
cut_fits chars columns buffer n some within characters =
    request_fits buffer (cut_pieces n) some within characters (cut_plain n)
