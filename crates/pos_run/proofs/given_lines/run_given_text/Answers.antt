use Rattle.pos_run.proofs.Common.{[], ap, last_line, pieces, refl, runs_join, unfinished, ◌++◌, ◌∙◌}
use Rattle.pos_script.proofs.LineLemmas.{two_parts}
use Rattle.pos_run.proofs.LineLemmas.{lines_join, stops_more}
use Rattle.pos_run.proofs.given_lines.run_given_text.Goals as goal

pub returns-in_default-clause-lines : goal.returns-in_default-clause-lines
returns-in_default-clause-lines g c =
    let (lines, are, stops, none) = c.in_default.ensures.piece [] (c.clear.ensures [] refl) in
    let last = last_line (unfinished c.args.lines.now) in
    rw (two_parts (pieces 10 c.args.lines.now) ∙ ap (λ ls. ls ++ last) are) (stops_more last stops)

pub returns-clause-lines : goal.returns-clause-lines
returns-clause-lines g c =
    let (lines, are, done, now) = c.in-Ok.ensures.piece [] (c.clear.ensures [] refl) in
    let (more, in_two, rest) = c.run_last.ensures.last c.args.lines.now now in
    lines_join (runs_join g.D.Disk g.P.Peripheral) done _ more (rw are at in_two) _ _ _ c.run_last.result rest
