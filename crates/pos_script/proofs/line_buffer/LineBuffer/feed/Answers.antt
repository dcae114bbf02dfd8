use Rattle.std.proofs.Common.{◌∙◌, ◌<◌, arith, length, sym}
use Rattle.std.proofs.lemmas.Bool.Decides.{nat_tests}
use Rattle.pos_script.proofs.BufferLemmas.{feeds_all, feeds_line, feeds_whole}
use Rattle.pos_script.proofs.line_buffer.LineBuffer.feed.Goals as goal

pub returns-then-is_empty-clause-lines : goal.returns-then-is_empty-clause-lines
returns-then-is_empty-clause-lines c read stands =
    let lt : c.find_end-end.result.0 < length c.args.piece.now = let h = c.if-end-piece.true in
    grind (arith, nat_tests) in
    feeds_whole read c.line_at_feed-line.result c.find_end-end.ensures.front lt (c.find_end-end.ensures.end lt)
    (sym c.is_empty.ensures.kept ∙ c.if-is_empty.true) c.line_at_feed-line.ensures stands

pub returns-then-end-piece-2-clause-lines : goal.returns-then-end-piece-2-clause-lines
returns-then-end-piece-2-clause-lines c read stands = feeds_all read c.args.piece.now c.find_end-end.ensures.front
    (let h = c.if-end-piece-2.true in grind (arith, nat_tests)) c.add.ensures stands

pub returns-clause-lines : goal.returns-clause-lines
returns-clause-lines c read stands =
    let lt : c.find_end-end.result.0 < length c.args.piece.now =
    let h = c.if-end-piece-2.false in let e = c.find_end-end.ensures.bound in grind (arith, nat_tests) in
    feeds_line read c.find_end-end.ensures.front lt (c.find_end-end.ensures.end lt) c.add.ensures c.end_line.ensures
    stands
