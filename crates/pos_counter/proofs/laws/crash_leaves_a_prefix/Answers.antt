-- A crash of a counter's disk leaves a prefix of the history.
use Rattle.pos_counter.proofs.PrefixRunLemmas.{has_begun, keeps_prefix, keeps_prefixes}
use Rattle.pos_counter.proofs.RunLemmas.{runs_from}
use Rattle.pos_counter.proofs.laws.crash_leaves_a_prefix.Goals as goal

pub returns-clause-begins : goal.returns-clause-begins
returns-clause-begins g c layout start sequence is = has_begun g.D.Disk _ layout start sequence c.args.counter.now is

pub returns-clause-call : goal.returns-clause-call
returns-clause-call g c layout start sequence steps old =
    keeps_prefix g.D.Disk _ layout start sequence steps old c.args.counter.now

pub returns-clause-list : goal.returns-clause-list
returns-clause-list g c layout start sequence steps more old =
    keeps_prefixes g.D.Disk _ layout start sequence steps more old c.args.counter.now

pub returns-clause-moments : goal.returns-clause-moments
returns-clause-moments g c left steps old = runs_from g.D.Disk _ old c.args.counter.now steps left g.met.D.Disk.only_now
