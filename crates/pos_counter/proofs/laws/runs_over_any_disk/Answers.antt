-- A run over whatever disk.
use Rattle.pos_counter.proofs.DiskUseLemmas.{runs_anyhow}
use Rattle.pos_counter.proofs.laws.runs_over_any_disk.Goals as goal

pub returns : goal.returns
returns g c left failures steps old is run = runs_anyhow g.D.Disk _ failures old c.args.counter.now steps left is run
