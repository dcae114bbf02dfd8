use Rattle.std.proofs.Common.{arith}
use Rattle.pos_escpos.proofs.replies.ReplyReader.take_all.Goals as goal

pub overflow_add-skipped : goal.overflow_add-skipped
overflow_add-skipped c = omega (arith, c.in_ok-replies.replies.small)
