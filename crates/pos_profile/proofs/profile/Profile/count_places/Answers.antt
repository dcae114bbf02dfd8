use Rattle.std.proofs.Common.{length-append}
use Rattle.pos_profile.proofs.Common.{arith}
use Rattle.pos_profile.proofs.RegistryLemmas.{planned_more}
use Rattle.pos_profile.proofs.profile.Profile.count_places.Goals as goal

pub loop-entry-preserved : goal.loop-entry-preserved
loop-entry-preserved c =
    let at = c.loop-entry.entry-index in
    let one = c.entry-item.result in
    grind (
      arith,
      length-append,
      c.deref-entry-items.ensures.value,
      planned_more c.deref-entry-items.result.now at one c.loop-entry-test.true c.entry-item.is,
    )
