use Rattle.pos_counter.proofs.Common.{rules}
use Rattle.pos_counter.proofs.FileCallLemmas.{calls_files}
use Rattle.pos_counter.proofs.totals_calls.call_files.Goals as goal

pub returns : goal.returns
returns g c = search (rules, calls_files, c.call.ensures.memory, c.call.ensures.calls)
