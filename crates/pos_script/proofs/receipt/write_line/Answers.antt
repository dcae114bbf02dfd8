use Rattle.std.proofs.Common.{◌≡◌, ◌++◌, [], ℕ, List, append_assoc, append-nil}
use Rattle.std.specs.Prelude.{codes}
use Rattle.pos_script.specs.Glyphs.{printed_text}
use Rattle.pos_script.proofs.WriteLemmas.{failed_front, behind}
use Rattle.pos_script.proofs.receipt.write_line.Goals as goal

-- the parts of the line one after another
item_line : (letter s t : List ℕ) → letter ++ (s ++ t) ≡ (letter ++ (s ++ [])) ++ t
item_line letter s t = simp (append_assoc, append-nil)

pub returns-in_err-write_parts : goal.returns-in_err-write_parts
returns-in_err-write_parts g c =
    let letter = c.letter_of.result.now in
    rw (← c.letter_of.ensures, item_line letter (codes ":") (printed_text c.args.characters.now))
    (failed_front _ _ _ _ c.from_residual.ensures.1 c.in_err-write_parts.ensures)

pub returns : goal.returns
returns g c =
    let letter = c.letter_of.result.now in
    rw (← c.letter_of.ensures, item_line letter (codes ":") (printed_text c.args.characters.now))
    (behind _ _ _ (codes " " ++ (letter ++ (codes ":" ++ []))) _ _ c.in_ok-write_parts.ensures c.write_printed.ensures)
