use Rattle.std.proofs.Common.{arith, true, ◌∙◌}
use Rattle.pos_drive.proofs.PreviewLemmas.{done_foretold}
use Rattle.pos_drive.proofs.driven.DrivenPeripheral.ask.Goals as goal
use Rattle.pos_drive.proofs.driven.DrivenPeripheral.ask.Goals.{else-ne-via-else-ne, else-ne-via-then-ne+else-eq-2}

pub returns-clause-only_reported : goal.returns-clause-only_reported
returns-clause-only_reported g c = λ unparked fits driven is. elim c.else-ne.branch [
  | else-ne-via-then-ne+else-eq-2 w ↦
      let same = done_foretold _ _ _ _ _ (c.ask-2.ensures unparked fits) (w.would.ensures unparked fits)
      (c.in_ok-reply.was ∙ is) in
      grind (arith, same, w.eq-then-ne.ensures, w.if-eq-2.false)
  | else-ne-via-else-ne w ↦
      c.verdict-verdict.ensures.only true (grind (arith, c.ne.ensures, w.if-ne))
]
