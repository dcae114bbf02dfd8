use Rattle.std.proofs.Common.{◌∙◌, ap, arith}
use Rattle.std.proofs.lemmas.Bool.Decides.{nat_tests}
use Rattle.pos_script.specs.LineBuffers.{look_with}
use Rattle.pos_script.proofs.BufferLemmas.{look_more}
use Rattle.pos_script.proofs.line_buffer.look_at.Goals as goal

pub returns : goal.returns
returns c = c.go_on.ensures ∙ ap (λ look. look_with look c.args.rest.now) c.look_whole-2.ensures
    ∙ look_more c.args.front.now c.args.rest.now (let h = c.if-is_empty.false in let e =
    c.is_empty.ensures in grind (arith, nat_tests))
