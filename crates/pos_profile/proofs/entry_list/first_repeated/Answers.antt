use Rattle.pos_profile.proofs.Common.{Entry, arith, below_more, false, is_repeated, length-map, names_of, ◌≡◌}
use Rattle.pos_profile.proofs.ListLemmas.{all_single, name_at, names_taken, repeated_at}
use Rattle.pos_profile.proofs.entry_list.first_repeated.Goals as goal

pub returns-then-not-is_new : goal.returns-then-not-is_new
returns-then-not-is_new c =
    let entry = c.index-entries-place.result in
    let at = name_at c.args.entries.now c.loop-place.place entry c.as_str.result.now c.loop-place-test.true
    c.index-entries-place.is c.as_str.ensures in
    let repeated =
    repeated_at c.as_str.result _ _ _ c.loop-place.invariant.so_far at c.in-Ok.is_new c.in-Ok.ensures.added in
    record { here = grind (arith, repeated); below = c.loop-place.invariant.single }

pub loop-place-preserved : goal.loop-place-preserved
loop-place-preserved c =
    let names = names_of c.args.entries.now in
    let place = c.loop-place.place in
    let lent = c.as_str.result in
    let at = name_at c.args.entries.now place c.index-entries-place.result lent.now c.loop-place-test.true
    c.index-entries-place.is c.as_str.ensures in
    let repeated = repeated_at lent _ names place c.loop-place.invariant.so_far at c.in-Ok.is_new c.in-Ok.ensures.added
    in
    let taken = names_taken lent _ names place c.loop-place.invariant.so_far
    at c.in-Ok.is_new c.in-Ok.ensures.added c.if-not-is_new.false in
    record {
      so_far = grind (arith, taken);
      single = below_more (λ n. is_repeated names n ≡ false) place c.loop-place.invariant.single
          (grind (arith, repeated));
    }

pub returns : goal.returns
returns c = all_single (names_of c.args.entries.now) c.loop-place.place (omega (
  arith,
  length-map c.args.entries.now (λ (e : Entry). e.name),
)) c.loop-place.invariant.single
