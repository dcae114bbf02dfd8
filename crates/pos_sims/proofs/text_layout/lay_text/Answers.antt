use Rattle.pos_sims.proofs.Common.{arith, length-drop, take, take_rest, text_from}
use Rattle.pos_sims.proofs.RunLemmas.{text_further}
use Rattle.pos_sims.proofs.WindowLemmas.{size_twice}
use Rattle.pos_sims.proofs.text_layout.lay_text.Goals as goal

pub loop-done-preserved : goal.loop-done-preserved
loop-done-preserved g c =
    let bytes = c.args.bytes.now in
    let before = text_from c.args.style.columns c.args.start (take c.loop-done.done bytes) in
    let laid = rw (take_rest bytes c.loop-done.done) at c.lay_front-count.ensures in
    let follows = laid.follows (g.W.Grid.shown c.args.window.now).cells before c.loop-done.invariant.follows in
    grind (
      arith,
      laid,
      follows,
      text_further c.args.style.columns c.args.start bytes c.loop-done.done,
      size_twice,
      length-drop,
    )
