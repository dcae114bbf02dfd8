use Rattle.std.proofs.Common.{refl}
use Rattle.pos_console.proofs.ServiceLemmas.{served_nothing, serves_built}
use Rattle.pos_console.proofs.scripts.serve_built.Goals as goal

pub returns-in_default-new_disk : goal.returns-in_default-new_disk
returns-in_default-new_disk g c = served_nothing _ _ (refl, (refl, refl))

pub returns : goal.returns
returns g c = serves_built c.in-Ok.profile c.in-Ok-new_disk.disk _ _ _ c.in-Ok.ensures c.in-Ok-new_disk.ensures
    c.run_over_profile-outcome.ensures.leaves c.run_over_profile-outcome.ensures.keys
