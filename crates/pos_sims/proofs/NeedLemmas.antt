-- What a request needs is what it uses.
use Rattle.pos_sims.proofs.Common.{List, Piece, Printout, Work, [], ap, arith, length, length_push, lines_needed, plain}
use Rattle.pos_sims.proofs.Common.{printed_by, refl, replicate, step, steps, suc, zero, ℕ, ◌++◌, ◌+◌, ◌<◌, ◌∙◌, ◌∷◌}
use Rattle.pos_sims.proofs.Common.{◌≡◌, ◌≤◌}
use Rattle.std.proofs.Common.{sym}
use Rattle.std.proofs.lemmas.List.Sums.{fold-append}
use Rattle.pos_service.specs.declared.receipt_text.Piece.TheVariants as piece
use Rattle.pos_sims.proofs.RequestLemmas.{request_run}
use Rattle.pos_sims.specs.PaperNeeds.{need, need_step, needs}
use Rattle.pos_sims.specs.declared.paper_needs.Need.{Need}

abbrev need_of : Work → Need
need_of work = need (length work.made.buffer) work.used

same_step : (chars : ℕ) (work : Work) (p : Piece) → need_of (step chars work p) ≡ need_step chars (need_of work) p
same_step chars work p = grind (arith, length_push)

same_steps : (chars : ℕ) (work : Work) (ps : List Piece) → need_of (steps chars work ps) ≡ needs chars (need_of work) ps
same_steps chars work [] = refl
same_steps chars work (p ∷ ps) =
    same_steps chars (step chars work p) ps ∙ ap (λ n. needs chars n ps) (same_step chars work p)

-- the lines that a request needs
pub needed : (chars : ℕ) (made : Printout) (ps : List Piece) → 0 < chars → length made.buffer ≤ chars
    → lines_needed (printed_by chars made.buffer ps).items ≡ (needs chars (need (length made.buffer) 0) ps).lines
needed chars made ps some le = sym (request_run made ps some le).1
    ∙ ap (λ (n : Need). n.lines) (same_steps chars (record { style = plain; made = made; used = 0 }) ps)

rises_step : (chars : ℕ) (n : Need) (p : Piece) → n.lines ≤ (need_step chars n p).lines
rises_step chars n p = grind arith

-- lines are only added
pub rises : (chars : ℕ) (n : Need) (ps : List Piece) → n.lines ≤ (needs chars n ps).lines
rises chars n [] = omega arith
rises chars n (p ∷ ps) = omega (arith, rises_step chars n p, rises chars (need_step chars n p) ps)

-- line ends
pub ends_need : (chars : ℕ) (n : Need) (count : ℕ)
    → needs chars n (replicate (suc count) piece.LineEnd) ≡ need 0 (n.lines + suc count)
ends_need chars n zero = refl
ends_need chars n (suc count) = ends_need chars (need 0 (n.lines + 1)) count ∙ ap (need 0) (omega arith)

-- a front of pieces and the rest
pub front_need : (chars : ℕ) (n : Need) (front rest ps : List Piece) → ps ≡ front ++ rest
    → needs chars n ps ≡ needs chars (needs chars n front) rest
front_need chars n front rest ps e = rw e (fold-append (need_step chars) n front rest)
