use Rattle.std.proofs.Common.{◌≡◌, ◌++◌, ◌+◌, ◌≤◌, drop, length, vec_len}
use Rattle.std.specs.Vec.{vec_capacity}
use Rattle.pos_escpos.specs.Replies.{reading_of}
use Rattle.pos_escpos.proofs.replies.ReplyReader.take_all.Given as goal

-- what was read so far and the reading of what is left are the reading of all
abbrev pub invariant-loop-byte : goal.invariant-loop-byte
invariant-loop-byte l =
    let rest = reading_of l.self (drop l.byte-index l.bytes) in
    let whole = reading_of l.fn.self l.bytes in
    record {
      replies : l.replies.items ++ rest.replies ≡ whole.replies;
      skipped : l.skipped + rest.skipped ≡ whole.skipped;
      reader : rest.reader ≡ whole.reader;
      bound : l.skipped + length l.self.begun ≤ l.byte-index + length l.fn.self.begun;
      full : vec_len l.replies ≤ l.byte-index;
      room : length l.bytes ≤ vec_capacity l.replies;
    }
