use Rattle.pos_wire.specs.Replies.{reader_of}
use Rattle.pos_wire.proofs.ReplyLemmas.{At}
use Rattle.pos_wire.proofs.replies.read_reply.Given as goal

abbrev pub invariant-loop-place : goal.invariant-loop-place
invariant-loop-place l = At (reader_of l.fn.asked) l.reader l.bytes l.place l.skipped
