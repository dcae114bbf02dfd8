use Rattle.std.proofs.Common.{arith}
use Rattle.std.proofs.lemmas.Bool.Decides.{nat_tests}
use Rattle.std.proofs.lemmas.List.{take_all}
use Rattle.std.proofs.lemmas.Slice.Eq.{bytes_eq-Decides}
use Rattle.pos_service.proofs.words.is.Goals as goal

pub returns : goal.returns
returns c =
    let same = c.loop-place.invariant in
    let ended = c.loop-place-test.false in
    let as_long = c.if-word-text.false in
    let bytes = c.as_bytes-text.ensures.value in
    grind (arith, nat_tests, take_all, bytes_eq-Decides)
