use Rattle.std.proofs.Common.{arith}
use Rattle.std.proofs.lemmas.Bool.Decides.{nat_tests}
use Rattle.std.proofs.lemmas.List.{take_all}
use Rattle.std.proofs.lemmas.Slice.Eq.{bytes_eq-Decides}
use Rattle.pos_profile.proofs.places.is_same.Goals as goal

pub returns : goal.returns
returns c =
    let same = c.loop-place.invariant in
    let ended = c.loop-place-test.false in
    let as_long = c.if-one-other.false in
    grind (arith, nat_tests, take_all, bytes_eq-Decides)
