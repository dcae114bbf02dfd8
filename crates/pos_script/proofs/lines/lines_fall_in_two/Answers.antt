use Rattle.pos_script.specs.Lines.{pieces}
use Rattle.pos_script.proofs.LineLemmas.{two_parts}
use Rattle.pos_script.proofs.lines.lines_fall_in_two.Goals as goal

pub returns : goal.returns
returns c bytes = two_parts (pieces 10 bytes)
