-- What an enabling finds where a crash has left a disk that stands for some files.
use Rattle.pos_counter.proofs.Common.{rules}
use Rattle.pos_counter.proofs.ReopenLemmas.{disk_failed, few_applied, finds_them}
use Rattle.pos_counter.proofs.laws.enabling_finds_the_files.Goals as goal

pub returns-clause-finds : goal.returns-clause-finds
returns-clause-finds c layout start sequence old new number control response is at asks step =
    search (rules, finds_them)

pub returns-clause-failed : goal.returns-clause-failed
returns-clause-failed c layout start sequence first last steps run is few next =
    disk_failed layout start sequence first last steps run is few next

pub returns-clause-few : goal.returns-clause-few
returns-clause-few c layout files sequence bytes is = search (rules, few_applied)
