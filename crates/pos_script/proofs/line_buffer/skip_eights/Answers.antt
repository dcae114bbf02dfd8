use Rattle.std.proofs.Common.{◌≡◌, ◌∙◌, ◌&&◌, ◌+◌, ◌-◌, ◌≤◌, true, length, take, drop, ap, sym, arith}
use Rattle.std.proofs.Math.Seq.{take-add}
use Rattle.std.proofs.lemmas.List.Folds.{list_all-append}
use Rattle.std.proofs.lemmas.Bool.Decides.{nat_tests}
use Rattle.pos_script.specs.Lines.{is_plain}
use Rattle.pos_script.specs.LineBuffers.{are_plain}
use Rattle.pos_script.proofs.line_buffer.skip_eights.Goals as goal

pub loop-place-preserved : goal.loop-place-preserved
loop-place-preserved c =
    let bytes = c.args.piece.now in
    let n = c.loop-place.place in
    let le : n + 8 ≤ length bytes = let h = c.loop-place-test.true in let k = c.loop-place.invariant.0 in
    grind (arith, nat_tests) in
    let size : n + 8 - n ≡ 8 = omega arith in
    let eight : are_plain (take 8 (drop n bytes)) ≡ true = ap (λ k. are_plain (take k (drop n bytes))) (sym size)
    ∙ sym c.are_eight_plain.ensures ∙ c.if-are_eight_plain.true in (
      le,
      ap are_plain (take-add n 8 bytes) ∙ list_all-append is_plain (take n bytes) (take 8 (drop n bytes))
          ∙ ap (λ t. t && are_plain (take 8 (drop n bytes))) c.loop-place.invariant.1 ∙ eight,
    )
