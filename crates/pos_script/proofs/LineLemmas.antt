-- How a script falls into lines where it comes in pieces.
use Rattle.std.proofs.Common.{◌≡◌, ◌++◌, ◌∷◌, ℕ, ◌<◌, List, [], true, length, ap, ◌∙◌, refl, arith, append-nil}
use Rattle.std.specs.List.{list_all}
use Rattle.pos_script.specs.LineBuffers.{is_no_feed}
use Rattle.pos_script.specs.Lines.{onto_first, pieces, lines_in, ended_in, last_in, last_line, complete_lines}
use Rattle.pos_script.specs.Lines.{unfinished, without_cr}
use Rattle.pos_script.proofs.PieceLemmas.{front_onto, front_onto_nil, some_piece}

-- the pieces of a text behind those of another: its first goes on with the last of the other
abbrev glue : List (List ℕ) → List (List ℕ) → List (List ℕ)
glue [] qs = qs
glue (p ∷ []) qs = front_onto p qs
glue (p ∷ q ∷ ps) qs = p ∷ glue (q ∷ ps) qs

-- what is put before the first piece goes on with it
front_onto_one : (xs p : List ℕ) (ps : List (List ℕ)) → front_onto xs (p ∷ ps) ≡ (xs ++ p) ∷ ps
front_onto_one [] p ps = refl
front_onto_one (x ∷ xs) p ps = ap (onto_first x) (front_onto_one xs p ps)

front_some : (xs : List ℕ) (ps : List (List ℕ)) → 0 < length ps → 0 < length (front_onto xs ps)
front_some xs [] lt = absurd (omega (arith, lt))
front_some xs (p ∷ ps) lt = rw (front_onto_one xs p ps) (omega arith)

pieces_append : (c : ℕ) (xs ys : List ℕ) → pieces c (xs ++ ys) ≡ glue (pieces c xs) (pieces c ys)
pieces_append c [] ys = refl
pieces_append c (x ∷ xs) ys =
    let some = some_piece c xs in
    let h = pieces_append c xs ys in
    grind arith

glue_some : (ps qs : List (List ℕ)) → 0 < length qs → 0 < length (glue ps qs)
glue_some [] qs lt = lt
glue_some (p ∷ []) qs lt = front_some p qs lt
glue_some (p ∷ q ∷ ps) qs lt = omega arith

-- the pieces that are ended among the pieces of two texts, and the last
glued : (ps qs : List (List ℕ)) → 0 < length ps → 0 < length qs
    → (ended_in (glue ps qs) ≡ ended_in ps ++ ended_in (front_onto (last_in ps) qs))
    × (last_in (glue ps qs) ≡ last_in (front_onto (last_in ps) qs))
glued [] qs some lt = absurd (omega (arith, some))
glued (p ∷ []) qs some lt = (refl, refl)
glued (p ∷ q ∷ ps) qs some lt =
    let more = glue_some (q ∷ ps) qs lt in
    let h = glued (q ∷ ps) qs (omega arith) lt in
    grind arith

lines_behind : (xs ys : List ℕ)
    → complete_lines (xs ++ ys) ≡ complete_lines xs ++ ended_in (front_onto (unfinished xs) (pieces 10 ys))
lines_behind xs ys = ap ended_in (pieces_append 10 xs ys)
    ∙ (glued (pieces 10 xs) (pieces 10 ys) (some_piece 10 xs) (some_piece 10 ys)).0

rest_behind : (xs ys : List ℕ) → unfinished (xs ++ ys) ≡ last_in (front_onto (unfinished xs) (pieces 10 ys))
rest_behind xs ys = ap last_in (pieces_append 10 xs ys)
    ∙ (glued (pieces 10 xs) (pieces 10 ys) (some_piece 10 xs) (some_piece 10 ys)).1

-- what is unfinished has no line feed
last_whole : (c : ℕ) (xs : List ℕ) → pieces c (last_in (pieces c xs)) ≡ last_in (pieces c xs) ∷ []
last_whole c [] = refl
last_whole c (x ∷ xs) = let some = some_piece c xs in let h = last_whole c xs in grind arith

pub go_on_lines : (front piece : List ℕ)
    → complete_lines (front ++ piece) ≡ complete_lines front ++ complete_lines (unfinished front ++ piece)
go_on_lines front piece = rw (lines_behind front piece, lines_behind (unfinished front) piece, last_whole 10 front) refl

pub go_on_rest : (front piece : List ℕ) → unfinished (front ++ piece) ≡ unfinished (unfinished front ++ piece)
go_on_rest front piece = rw (rest_behind front piece, rest_behind (unfinished front) piece, last_whole 10 front) refl

pub two_parts : (ps : List (List ℕ)) → lines_in ps ≡ ended_in ps ++ last_line (last_in ps)
two_parts [] = refl
two_parts (p ∷ []) = refl
two_parts (p ∷ q ∷ ps) = ap (λ x. without_cr p ∷ x) (two_parts (q ∷ ps))

-- bytes without a line feed are one piece
pub one_piece : (bs : List ℕ) → list_all is_no_feed bs ≡ true → pieces 10 bs ≡ bs ∷ []
one_piece [] h = refl
one_piece (b ∷ bs) h = let more = one_piece bs in grind arith

-- behind what was read, bytes without a line feed
pub adds_lines : (read bytes : List ℕ) → list_all is_no_feed bytes ≡ true
    → complete_lines (read ++ bytes) ≡ complete_lines read
adds_lines read bytes h = rw (lines_behind read bytes, one_piece bytes h, front_onto_one (unfinished read) bytes [])
    (append-nil (complete_lines read))

pub adds_rest : (read bytes : List ℕ) → list_all is_no_feed bytes ≡ true
    → unfinished (read ++ bytes) ≡ unfinished read ++ bytes
adds_rest read bytes h = rw (rest_behind read bytes, one_piece bytes h, front_onto_one (unfinished read) bytes []) refl

-- and such bytes with a line feed behind them
ended_piece : (bytes : List ℕ) → list_all is_no_feed bytes ≡ true → pieces 10 (bytes ++ 10 ∷ []) ≡ bytes ∷ [] ∷ []
ended_piece bytes h = rw (pieces_append 10 bytes, one_piece bytes h) (front_onto_nil bytes ([] ∷ []))

pub ends_lines : (read bytes : List ℕ) → list_all is_no_feed bytes ≡ true
    → complete_lines (read ++ (bytes ++ 10 ∷ [])) ≡ complete_lines read ++ without_cr (unfinished read ++ bytes) ∷ []
ends_lines read bytes h = rw (
  lines_behind read (bytes ++ 10 ∷ []),
  ended_piece bytes h,
  front_onto_one (unfinished read) bytes ([] ∷ []),
) refl

pub ends_rest : (read bytes : List ℕ) → list_all is_no_feed bytes ≡ true → unfinished (read ++ (bytes ++ 10 ∷ [])) ≡ []
ends_rest read bytes h = rw (
  rest_behind read (bytes ++ 10 ∷ []),
  ended_piece bytes h,
  front_onto_one (unfinished read) bytes ([] ∷ []),
) refl

-- a line feed ended the first of some pieces
pub ended_line : (piece : List ℕ) (pieces : List (List ℕ)) → 0 < length pieces
    → lines_in (piece ∷ pieces) ≡ without_cr piece ∷ lines_in pieces
ended_line piece [] none = absurd (omega (arith, none))
ended_line piece (next ∷ more) some = refl
