use Rattle.std.proofs.Common.{ap, sym, ◌++◌, ◌∙◌}
use Rattle.pos_shell.proofs.XmlLemmas.{mapped_more}
use Rattle.pos_shell.specs.Xml.{case_text}
use Rattle.pos_shell.proofs.xml.cases_text.Goals as goal

pub loop-trial-preserved : goal.loop-trial-preserved
loop-trial-preserved c = c.in_ok-extend_from_slice.ensures.items
    ∙ ap (λ more. c.loop-trial.text.items ++ more) (c.deref.ensures.value ∙ c.in_ok-case_text.ensures)
    ∙ ap (λ text. text ++ case_text c.trial-item.result) c.loop-trial.invariant
    ∙ sym (mapped_more case_text c.args.trials.now c.loop-trial-test.true c.trial-item.is)
