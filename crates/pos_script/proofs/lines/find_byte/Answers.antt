use Rattle.std.proofs.Common.{arith, eq-eqb}
use Rattle.std.proofs.lemmas.Bool.Decides.{nat_tests}
use Rattle.pos_script.proofs.PieceLemmas.{front_more, front_cut, front_end}
use Rattle.pos_script.proofs.lines.find_byte.Goals as goal

pub returns-then-byte-at-clause-cut : goal.returns-then-byte-at-clause-cut
returns-then-byte-at-clause-cut c = λ within. front_cut c.args.at c.args.text.now 0 c.loop-place-test.true
    (eq-eqb _ _ c.if-byte-at.true) c.loop-place.invariant

pub loop-place-preserved : goal.loop-place-preserved
loop-place-preserved c = front_more c.args.at c.args.text.now 0 c.loop-place-test.true
    (let h = c.if-byte-at.false in grind (arith, nat_tests)) c.loop-place.invariant

pub returns-clause-whole : goal.returns-clause-whole
returns-clause-whole c = λ end. front_end c.args.at c.loop-place-test.false c.loop-place.invariant
