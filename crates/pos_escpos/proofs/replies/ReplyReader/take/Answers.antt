use Rattle.std.proofs.Common.{length, subst, sym}
use Rattle.pos_escpos.specs.Replies.{Step}
use Rattle.pos_escpos.proofs.LossLemmas.{Accounts, byte_accounts}
use Rattle.pos_escpos.proofs.replies.ReplyReader.take.Goals as goal

pub returns-clause-counts : goal.returns-clause-counts
returns-clause-counts c = subst (λ (step : Step). Accounts (length c.args.self.now.begun) step)
    (sym c.take_byte.ensures) (byte_accounts c.args.self.now c.args.byte)
