use Rattle.std.proofs.Common.{take}
use Rattle.pos_script.proofs.BufferLemmas.{plain_no_feed}
use Rattle.pos_script.proofs.line_buffer.find_end.Goals as goal

pub returns-then-plain-piece-clause-front : goal.returns-then-plain-piece-clause-front
returns-then-plain-piece-clause-front c =
    plain_no_feed (take c.count_plain-plain.result c.args.piece.now) c.count_plain-plain.ensures.plain

pub find_feed-requires-clause-front : goal.find_feed-requires-clause-front
find_feed-requires-clause-front c =
    plain_no_feed (take c.count_plain-plain.result c.args.piece.now) c.count_plain-plain.ensures.plain
