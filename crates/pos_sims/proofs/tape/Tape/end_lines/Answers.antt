use Rattle.pos_sims.proofs.Common.{[], arith, work_of, ◌∷◌}
use Rattle.pos_service.specs.declared.receipt_text.Piece.TheVariants as piece
use Rattle.pos_sims.proofs.RequestLemmas.{next_line, past_front}
use Rattle.pos_sims.proofs.TapeLemmas.{adds_more}
use Rattle.pos_sims.proofs.tape.Tape.end_lines.Goals as goal

pub returns-in-Err-clause-paper : goal.returns-in-Err-clause-paper
returns-in-Err-clause-paper c = λ e. past_front c.args.self.now.chars (work_of c.loop.self) (piece.LineEnd ∷ []) _
    (next_line c.args.count c.loop.counter c.loop-test.true) c.loop.invariant.work
    (grind (arith, c.in-Err.ensures.paper e, c.loop.invariant.adds))

pub loop-preserved : goal.loop-preserved
loop-preserved c = record {
  work = grind (arith, next_line c.args.count c.loop.counter c.loop-test.true);
  adds = adds_more c.loop.invariant.adds c.end_line.ensures.adds;
}
