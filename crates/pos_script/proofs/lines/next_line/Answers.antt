use Rattle.std.proofs.Common.{ap, ◌∙◌, ◌≡◌, ◌∷◌}
use Rattle.pos_script.proofs.PieceLemmas.{some_piece}
use Rattle.pos_script.specs.Lines.{lines_in, pieces}
use Rattle.pos_script.proofs.LineLemmas.{ended_line}
use Rattle.pos_script.proofs.lines.next_line.Goals as goal

pub returns-in-Some-clause-lines : goal.returns-in-Some-clause-lines
returns-in-Some-clause-lines c =
    let front = c.cut.result.0.now in
    let rest = c.in-Some.rest.now in
    let in_two : pieces 10 c.args.text.now ≡ front ∷ pieces 10 rest = rw c.in-Some.is at c.cut.ensures.pieces in
    ap lines_in in_two ∙ rw c.strip_cr.ensures (ended_line front (pieces 10 rest) (some_piece 10 rest))
