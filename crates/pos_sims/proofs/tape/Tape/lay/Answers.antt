use Rattle.pos_sims.proofs.Common.{[], arith, pieces_in, work_of, ◌∷◌}
use Rattle.pos_service.specs.declared.receipt_text.Piece.TheVariants as piece
use Rattle.pos_sims.proofs.RequestLemmas.{past_front}
use Rattle.pos_sims.proofs.tape.Tape.lay.Goals as goal

pub returns-in-Err-clause-paper : goal.returns-in-Err-clause-paper
returns-in-Err-clause-paper c = λ e. past_front c.args.self.now.chars (work_of c.loop-rest.self)
    (piece.Character c.in-Some.byte ∷ []) _ c.in-Some.ensures.pieces c.loop-rest.invariant.work
    (grind (arith, c.in-Err.ensures.paper e, c.loop-rest.invariant.adds))

pub returns-in-Err-lay_token-clause-paper : goal.returns-in-Err-lay_token-clause-paper
returns-in-Err-lay_token-clause-paper c = λ e. past_front c.args.self.now.chars (work_of c.loop-rest.self)
    (pieces_in c.next_token-token.result.0) _ c.next_token-token.ensures.pieces c.loop-rest.invariant.work
    (grind (arith, c.in-Err-lay_token.ensures.paper e, c.loop-rest.invariant.adds))
