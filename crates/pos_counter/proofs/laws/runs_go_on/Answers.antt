-- Runs go on.
use Rattle.pos_counter.proofs.RunLemmas.{runs_join, runs_more}
use Rattle.pos_counter.proofs.laws.runs_go_on.Goals as goal

pub returns-clause-step : goal.returns-clause-step
returns-clause-step g c first mid steps request response run step = runs_more g.D.Disk _ first steps run step

pub returns-clause-run : goal.returns-clause-run
returns-clause-run g c first mid steps more run rest =
    runs_join g.D.Disk _ first mid c.args.counter.now steps more run rest
