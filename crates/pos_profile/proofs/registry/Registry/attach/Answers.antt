use Rattle.pos_profile.proofs.Common.{sym}
use Rattle.pos_profile.proofs.RegistryLemmas.{put_named}
use Rattle.pos_profile.proofs.registry.Registry.attach.Goals as goal

pub returns-clause-puts : goal.returns-clause-puts
returns-clause-puts g c = (
  c.in-Some.place,
  c.put.ensures.put,
  put_named g.P.Peripheral c.put.new.self.slots.items c.args.peripheral (sym c.in-Some.ensures.place) c.put.ensures.put,
)
