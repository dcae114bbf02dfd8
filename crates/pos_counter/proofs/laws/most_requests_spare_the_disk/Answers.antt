-- Which requests spare the disk.
use Rattle.pos_counter.proofs.Common.{[]}
use Rattle.pos_counter.proofs.Common.{◌∷◌}
use Rattle.pos_counter.proofs.laws.most_requests_spare_the_disk.Goals as goal

pub returns-clause-run : goal.returns-clause-run
returns-clause-run c old new [] run all = run
returns-clause-run c old new (s ∷ steps) run all =
    let (mid, first, others) = run in
    (mid, first.0 all.0, returns-clause-run c mid new steps others all.1)
