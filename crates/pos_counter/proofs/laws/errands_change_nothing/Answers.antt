-- What is taken out of a counter's disk leaves it the same.
use Rattle.pos_counter.proofs.ErrandLemmas.{runs_on, same_after, same_before, same_run, same_sound}
use Rattle.pos_counter.proofs.laws.errands_change_nothing.Goals as goal

pub returns-clause-sound : goal.returns-clause-sound
returns-clause-sound g c old same = same_sound g.D.Disk _ same

pub returns-clause-past : goal.returns-clause-past
returns-clause-past g c layout start sequence steps old same = same_run g.D.Disk _ same layout start sequence steps

pub returns-clause-before : goal.returns-clause-before
returns-clause-before g c left steps first old same = same_before g.D.Disk _ same first left steps

pub returns-clause-after : goal.returns-clause-after
returns-clause-after g c left steps old mid same = same_after g.D.Disk _ same c.args.counter.now left steps

pub returns-clause-join : goal.returns-clause-join
returns-clause-join g c left steps more first mid runs = runs_on g.D.Disk _ first mid left steps more runs
