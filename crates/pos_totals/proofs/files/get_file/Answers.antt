use Rattle.pos_totals.proofs.Common.{arith}
use Rattle.pos_totals.proofs.PairLemmas.{one_of_sum}
use Rattle.pos_totals.proofs.files.get_file.Goals as goal

pub returns-clause-small : goal.returns-clause-small
returns-clause-small c =
    let one = one_of_sum c.args.files.directory.now.files c.args.index in
    let all = c.requires.directory.size in
    grind (arith, one)
