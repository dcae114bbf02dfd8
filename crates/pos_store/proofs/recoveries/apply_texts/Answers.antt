use Rattle.pos_store.proofs.Common.{◌∙◌}
use Rattle.pos_store.proofs.StandingLemmas.{one_step}
use Rattle.pos_store.proofs.RecordLemmas.{front_drop}
use Rattle.pos_store.proofs.recoveries.apply_texts.Goals as goal

pub loop-text-preserved : goal.loop-text-preserved
loop-text-preserved c =
    let before = c.loop-text.invariant in
    let rest =
    front_drop c.args.texts.now c.loop-text.text-index c.text-item.result c.loop-text-test.true c.text-item.is in
    let step = rw (before.limits, c.deref.ensures.value) at c.in-Ok.ensures.ok in
    record {
      limits = c.apply_text.ensures.limits ∙ before.limits;
      onward = λ last more. before.onward last (rw rest (c.apply_text.new.directory.files, step, more));
      back = λ last applies.
          let here = rw rest at (before.back last applies) in
          rw (one_step c.args.directory.now.limits c.loop-text.directory.files c.text-item.result.items here.0
          c.apply_text.new.directory.files here.1 step) at here.2;
    }
