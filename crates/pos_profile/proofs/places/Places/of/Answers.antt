use Rattle.pos_profile.proofs.Common.{arith}
use Rattle.pos_profile.proofs.PlaceLemmas.{place_more, planned_name}
use Rattle.pos_profile.proofs.places.Places.of.Goals as goal

pub loop-place-preserved : goal.loop-place-preserved
loop-place-preserved c = λ name.
    let planned = c.index-plan-place.result in
    let at = planned_name c.args.plan.now c.loop-place-test.true c.index-plan-place.is in
    grind (
      arith,
      c.in_ok-note.ensures name,
      c.loop-place.invariant name,
      place_more _ c.loop-place.place planned.name at name,
    )
