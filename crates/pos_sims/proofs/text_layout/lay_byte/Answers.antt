use Rattle.pos_sims.proofs.Common.{arith, fed, line_feed_text}
use Rattle.pos_sims.proofs.RunLemmas.{row_full}
use Rattle.pos_sims.proofs.WindowLemmas.{wrapped}
use Rattle.pos_sims.proofs.text_layout.lay_byte.Goals as goal

pub returns-then-byte-eq10-clause-follows : goal.returns-then-byte-eq10-clause-follows
returns-then-byte-eq10-clause-follows g c =
    λ old strip h. grind (arith, line_feed_text, c.next_row.ensures.follows old strip h)

pub returns-clause-follows : goal.returns-clause-follows
returns-clause-follows g c = λ old strip h.
    let laid = c.lay_run.ensures.follows old (fed strip) (c.next_row-start.ensures.follows old strip h) in
    grind (arith, wrapped c.args.style.columns c.args.byte strip, row_full, h.column, laid)
