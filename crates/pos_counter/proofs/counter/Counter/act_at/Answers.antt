use Rattle.pos_counter.proofs.HostsLemmas.{same_sound}
use Rattle.pos_counter.proofs.counter.Counter.act_at.Goals as goal

pub returns-clause-sound : goal.returns-clause-sound
returns-clause-sound g c = same_sound c.act_at.ensures.same c.requires.sound c.act_at.ensures.sound
