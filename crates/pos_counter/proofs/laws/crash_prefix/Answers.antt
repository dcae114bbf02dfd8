-- A crash leaves a prefix of the history.
use Rattle.pos_counter.proofs.Common.{rules}
use Rattle.pos_counter.proofs.PrefixRunLemmas.{bytes_along, fits_last, law_after, law_recovers}
use Rattle.pos_counter.proofs.PrefixLemmas.{fits_inside, fits_start, grows}
use Rattle.pos_counter.proofs.StepLemmas.{step_fits}
use Rattle.pos_counter.proofs.laws.crash_prefix.Goals as goal

pub returns-clause-after : goal.returns-clause-after
returns-clause-after c layout start sequence first last steps run is =
    law_after layout start sequence first last steps run is

pub returns-clause-inside : goal.returns-clause-inside
returns-clause-inside c layout start sequence first old steps run request response new step is =
    search (rules, fits_last, fits_inside, step_fits)

pub returns-clause-along : goal.returns-clause-along
returns-clause-along c layout start sequence first last steps run is = search (rules, bytes_along, fits_start)

pub returns-clause-files : goal.returns-clause-files
returns-clause-files c layout start sequence first last steps run is left one =
    rw (law_after layout start sequence first last steps run is left one).stands tt

pub returns-clause-recovers : goal.returns-clause-recovers
returns-clause-recovers c layout start sequence first last steps run is =
    law_recovers layout start sequence first last steps run is

pub returns-clause-settled : goal.returns-clause-settled
returns-clause-settled c = grows
