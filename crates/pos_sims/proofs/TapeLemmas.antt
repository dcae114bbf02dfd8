-- Items by marks, and what is added at the end.
use Rattle.pos_sims.proofs.Common.{Adds, Extends, List, Piece, PrintedCharacter, Work, [], after_items, append_assoc}
use Rattle.pos_sims.proofs.Common.{arith, characters_in, drop, drop-append-le, drop-drop, items_from, length}
use Rattle.pos_sims.proofs.Common.{lines_needed, plain, printed_on, refl, request_on, steps, take-append-le, ℕ, ◌++◌}
use Rattle.pos_sims.proofs.Common.{◌+◌, ◌∙◌, ◌∷◌, ◌≡◌, ◌≤◌}
use Rattle.pos_service.specs.declared.receipt_text.Mark.{Mark}
use Rattle.pos_sims.specs.declared.tape.Tape.{Tape}
use Rattle.std.proofs.Common.{length-drop}
use Rattle.pos_service.specs.declared.receipt_text.Mark.TheVariants as mark
use Rattle.pos_sims.proofs.RequestLemmas.{request_run}

-- characters behind the lines make no item
pub items_of_more : (marks : List Mark) (characters more : List PrintedCharacter)
    → characters_in marks ≤ length characters → items_from marks (characters ++ more) ≡ items_from marks characters
items_of_more [] characters more le = refl
items_of_more (mark.Line a n ∷ marks) characters more le =
    grind (arith, take-append-le, drop-append-le, items_of_more marks (drop n characters) more, length-drop)
items_of_more (mark.Cut n ∷ marks) characters more le = rw (items_of_more marks characters more le)

-- marks behind marks
pub items_append : (marks more : List Mark) (characters : List PrintedCharacter) → items_from (marks ++ more) characters
    ≡ items_from marks characters ++ items_from more (drop (characters_in marks) characters)
items_append [] more characters = refl
items_append (mark.Line b m ∷ marks) more characters = rw (items_append marks more (drop m characters), drop-drop)
items_append (mark.Cut m ∷ marks) more characters = rw (items_append marks more characters)

pub characters_append : (marks more : List Mark)
    → characters_in (marks ++ more) ≡ characters_in marks + characters_in more
characters_append [] more = omega arith
characters_append (mark.Line b m ∷ marks) more = omega (arith, characters_append marks more)
characters_append (mark.Cut m ∷ marks) more = characters_append marks more

extends_more : {X : Type 0} {xs ys zs : List X} → Extends xs ys → Extends ys zs → Extends xs zs
extends_more a b = record { more = a.more ++ b.more; is = grind (arith, append_assoc) }

pub adds_more : {a b c : Tape} → Adds a b → Adds b c → Adds a c
adds_more h k = record {
  characters = extends_more h.characters k.characters;
  marks = extends_more h.marks k.marks;
  chars = k.chars ∙ h.chars;
  limit = k.limit ∙ h.limit;
}

-- a request on a tape, by the run of its pieces
pub asked : (tape : Tape) (chars : ℕ) (first next : Work) (ps : List Piece) → chars ≡ tape.chars
    → first ≡ record { style = plain; made = printed_on tape; used = 0 } → next ≡ steps chars first ps → (next.made
    ≡ after_items (printed_on tape).items (request_on tape ps)) × (next.used ≡ lines_needed (request_on tape ps).items)
asked tape chars first next ps e h is =
    let short : length (drop tape.start tape.characters.items) ≤ tape.chars =
    omega (arith, length-drop tape.start tape.characters.items, tape.characters.ok.0, tape.bounded) in
    rw (is, h, e) (request_run (printed_on tape) ps tape.some short)
