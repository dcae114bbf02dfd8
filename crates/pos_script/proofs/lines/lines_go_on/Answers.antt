use Rattle.pos_script.proofs.LineLemmas.{go_on_lines, go_on_rest}
use Rattle.pos_script.proofs.lines.lines_go_on.Goals as goal

pub returns-clause-lines : goal.returns-clause-lines
returns-clause-lines c = go_on_lines

pub returns-clause-rest : goal.returns-clause-rest
returns-clause-rest c = go_on_rest
