-- A run over the pieces makes what the definition by segments says.
use Rattle.pos_sims.proofs.Common.{CutAt, Item, Line, List, Piece, PrintedCharacter, Printout, SegmentCharacter, Style}
use Rattle.pos_sims.proofs.Common.{Work, [], add_cut, after_items, ap, append-nil, append_assoc, arith, begun_segment}
use Rattle.pos_sims.proofs.Common.{characters_of, chunks_of, end_begun, end_line, ended, in_style, length, length-map}
use Rattle.pos_sims.proofs.Common.{length_push, lines_if_begun, lines_needed, lines_of, plain, printed_by, printed_from}
use Rattle.pos_sims.proofs.Common.{put, refl, replicate, step, steps, suc, ℕ, ◌++◌, ◌+◌, ◌-◌, ◌<◌, ◌∙◌, ◌∷◌, ◌≡◌, ◌≤◌}
use Rattle.std.proofs.lemmas.List.Sums.{fold-append}
use Rattle.pos_service.specs.declared.receipt_text.Piece.TheVariants as piece
use Rattle.pos_sims.proofs.ChunkLemmas.{chunked_more, put_behind, chunked_some, fitting}

made_put : (chars byte : ℕ) (work : Work) → (step chars work (piece.Character byte)).made
    ≡ put chars work.style.alignment (in_style work.style byte).character work.made
made_put chars byte work = grind arith

put_segment : (chars : ℕ) → 0 < chars → (style : Style) (byte : ℕ) (segment : List SegmentCharacter) (items : List Item)
    → put chars style.alignment (in_style style byte).character (after_items items (chunks_of chars segment))
    ≡ after_items items (chunks_of chars (segment ++ in_style style byte ∷ []))
put_segment chars some style byte segment items =
    let s = in_style style byte in
    let count : length (segment ++ s ∷ []) ≡ suc (length segment) = omega (arith, length_push segment s) in
    rw (put_behind, count, chunked_more (length segment) chars segment s some (omega arith))

ended_segment : (chars : ℕ) (style : Style) (items : List Item) (segment : List SegmentCharacter)
    → ended style.alignment (after_items items (chunks_of chars segment))
    ≡ after_items (items ++ lines_of chars style.alignment segment) (chunks_of chars [])
ended_segment chars style items segment = simp (append_assoc, append-nil)

begun_made : (chars : ℕ) (work : Work) (segment : List SegmentCharacter) (items : List Item)
    → work.made ≡ after_items items (chunks_of chars segment) → (end_begun work).made
    ≡ after_items (items ++ lines_if_begun chars work.style.alignment segment) (chunks_of chars [])
begun_made chars work [] items h = grind (arith, append-nil)
begun_made chars work (s ∷ segment) items h =
    grind (arith, append-nil, append_assoc, chunked_some (length (s ∷ segment)) chars (s ∷ segment) (omega arith))

-- the run and the definition
same_made : (chars : ℕ) → 0 < chars
    → (ps : List Piece) (work : Work) (style : Style) (segment : List SegmentCharacter) (items : List Item)
    → work.style ≡ style → work.made ≡ after_items items (chunks_of chars segment)
    → (steps chars work ps).made ≡ after_items items (printed_from chars style segment ps)
same_made chars some [] work style segment items is h = h
same_made chars some (piece.Character byte ∷ ps) work style segment items is h =
    same_made chars some ps (step chars work (piece.Character byte)) style (segment ++ in_style style byte ∷ []) items
    (grind arith) (grind (arith, made_put, put_segment chars some style byte segment items))
same_made chars some (piece.LineEnd ∷ ps) work style segment items is h = same_made chars some ps (end_line work) style
    [] (items ++ lines_of chars style.alignment segment) is (grind (arith, ended_segment)) ∙ simp append_assoc
same_made chars some (piece.Return ∷ ps) work style segment items is h =
    same_made chars some ps (end_begun work) style [] (items ++ lines_if_begun chars style.alignment segment)
    (grind arith) (grind (arith, begun_made chars work segment items h)) ∙ simp append_assoc
same_made chars some (piece.Cut n ∷ ps) work style segment items is h = same_made chars some ps
    (add_cut n (end_begun work)) style [] (items ++ (lines_if_begun chars style.alignment segment ++ CutAt n ∷ []))
    (grind arith) (rw (begun_made chars work segment items h, is) (simp (append_assoc, append-nil))) ∙ simp append_assoc
same_made chars some (piece.Bold ∷ ps) work style segment items is h =
    same_made chars some ps (step chars work piece.Bold) _ segment items (rw is) h
same_made chars some (piece.Align to ∷ ps) work style segment items is h =
    same_made chars some ps (step chars work (piece.Align to)) _ segment items (rw is) h
same_made chars some (piece.Normal ∷ ps) work style segment items is h =
    same_made chars some ps (step chars work piece.Normal) _ segment items refl h
same_made chars some (piece.OutOfRange ∷ ps) work style segment items is h =
    same_made chars some ps work style segment items is h

lines_more : (xs ys : List Item) → lines_needed (xs ++ ys) ≡ lines_needed xs + lines_needed ys
lines_more [] ys = omega arith
lines_more (Line a characters ∷ xs) ys = omega (arith, lines_more xs ys)
lines_more (CutAt n ∷ xs) ys = lines_more xs ys

-- what a request has used are the lines that it has made
record Counts (work next : Work) : Type 0 where
  lines : next.used + lines_needed work.made.items ≡ work.used + lines_needed next.made.items
  rises : work.used ≤ next.used

counts_step : (chars : ℕ) (work : Work) (p : Piece) → Counts work (step chars work p)
counts_step chars work p = grind (arith, lines_more)

counts : (chars : ℕ) (ps : List Piece) (work : Work) → Counts work (steps chars work ps)
counts chars [] work = record { lines = refl; rises = omega arith }
counts chars (p ∷ ps) work = grind (arith, counts_step chars work p, counts chars ps (step chars work p))

-- paper that ends within the pieces ends before their end
pub past_front : (chars : ℕ) (work : Work) {all : Work} (front back : List Piece) {ps : List Piece} {limit : ℕ}
    → ps ≡ front ++ back → steps chars work ps ≡ all → limit < (steps chars work front).used → limit < all.used
past_front chars work front back e is lt = grind (arith, fold-append, counts chars back (steps chars work front))

-- one line end of some
pub next_line : (count i : ℕ) → i < count
    → replicate (count - i) piece.LineEnd ≡ piece.LineEnd ∷ replicate (count - (i + 1)) piece.LineEnd
next_line count i lt = grind arith

begun_characters : (buffer : List PrintedCharacter) → characters_of (begun_segment buffer) ≡ buffer
begun_characters [] = refl
begun_characters (character ∷ buffer) = rw (begun_characters buffer)

-- a request begins with one chunk, the old buffer
begins_so : {chars : ℕ} (items : List Item) {buffer : List PrintedCharacter} → length buffer ≤ chars
    → record { items = items; buffer = buffer } ≡ after_items items (chunks_of chars (begun_segment buffer))
begins_so items le = grind (arith, fitting, append-nil, begun_characters, length-map)

-- what a request prints, and how many lines it uses
pub request_run : {chars : ℕ} (made : Printout) (ps : List Piece) → 0 < chars → length made.buffer ≤ chars →
    let end = steps chars (record { style = plain; made = made; used = 0 }) ps in
    (end.made ≡ after_items made.items (printed_by chars made.buffer ps))
    × (end.used ≡ lines_needed (printed_by chars made.buffer ps).items)
request_run {chars} made ps some le =
    let first : Work = record { style = plain; made = made; used = 0 } in
    let is =
    same_made chars some ps first plain (begun_segment made.buffer) made.items refl (begins_so made.items le) in
    let lines = (counts chars ps first).lines in (
      is,
      omega (
        arith,
        lines,
        ap (λ (end : Printout). lines_needed end.items) is,
        lines_more made.items (printed_by chars made.buffer ps).items,
      ),
    )
