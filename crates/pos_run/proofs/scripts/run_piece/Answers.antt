use Rattle.pos_run.proofs.Common.{[], append-nil, append_assoc, complete_lines, refl, runs_join, unfinished, ◌++◌, ◌∙◌}
use Rattle.pos_run.proofs.Common.{◌∷◌}
use Rattle.pos_script.proofs.LineLemmas.{go_on_lines}
use Rattle.pos_run.proofs.LineLemmas.{finishes_join, finishes_none, stops_join, stops_more}
use Rattle.pos_run.proofs.SessionLemmas.{keeps_here, keeps_on}
use Rattle.pos_run.proofs.scripts.run_piece.Goals as goal

pub loop-ended-init : goal.loop-ended-init
loop-ended-init g c = (
  keeps_here c.requires.sound,
  λ read stands. ([], [], refl, simp append-nil, finishes_none refl _, rw append-nil stands),
)

pub loop-ended-preserved : goal.loop-ended-preserved
loop-ended-preserved g c = (
  keeps_on g.P.Peripheral _ _ _ c.loop-ended.invariant.0 c.in-Ok.ensures.session,
  λ read stands.
      let (seen, lines, split, are, done, now) = c.loop-ended.invariant.1 read stands in
      let (taken, cut, ended) = c.in-Some.ensures.lines (read ++ seen) now in
      let (line, ends, none, is) = ended in (
        seen ++ taken,
        lines ++ line ∷ [],
        simp (split, cut, append_assoc),
        rw (← append_assoc read seen taken, ends, are, append_assoc) refl,
        finishes_join (runs_join g.D.Disk g.P.Peripheral) done
            (c.in-Ok.ensures.line line (c.ended_line-line.ensures line is)),
        c.clear.ensures (read ++ (seen ++ taken)) (rw (← append_assoc read seen taken) none),
      ),
)

pub returns-in_default-run_and_print-clause-piece : goal.returns-in_default-run_and_print-clause-piece
returns-in_default-run_and_print-clause-piece g c = λ read stands.
    let (seen, lines, split, are, done, now) = c.loop-ended.invariant.1 read stands in
    let (taken, cut, ended) = c.in-Some.ensures.lines (read ++ seen) now in
    let (line, ends, none, is) = ended in
    let more = complete_lines (unfinished ((read ++ seen) ++ taken) ++ c.in-Some.rest.now) in (
      (lines ++ line ∷ []) ++ more,
      rw (
        split,
        cut,
        ← append_assoc read seen,
        ← append_assoc (read ++ seen) taken,
        go_on_lines ((read ++ seen) ++ taken) c.in-Some.rest.now,
        ends,
        are,
      ) (simp append_assoc),
      stops_more more (stops_join (runs_join g.D.Disk g.P.Peripheral) done
          (c.in_default-run_and_print.ensures.line line (c.ended_line-line.ensures line is))),
      tt,
    )

pub returns-clause-piece : goal.returns-clause-piece
returns-clause-piece g c = λ read stands.
    let (seen, lines, split, are, done, now) = c.loop-ended.invariant.1 read stands in
    let (none, kept) = c.in_default.ensures.lines (read ++ seen) now in
    (lines, rw (split, ← append_assoc) (none ∙ are), done, rw (split, ← append_assoc) kept)
