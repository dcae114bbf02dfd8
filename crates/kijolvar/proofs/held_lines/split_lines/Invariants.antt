use Rattle.std.proofs.Common.{All, length, ◌++◌, ◌≡◌}
use Rattle.pos_script.specs.Lines.{lines_of}
use Rattle.pos_run.specs.WaitingLines.{IsOneLine, lines_in}
use Rattle.kijolvar.proofs.held_lines.split_lines.Given as goal

-- the lines so far, and those of what is left, are those of the text
abbrev pub invariant-loop-rest : goal.invariant-loop-rest
invariant-loop-rest l = record {
  same : lines_of l.text ≡ lines_in l.lines.items ++ lines_of l.rest;
  each : All IsOneLine l.lines.items;
}

abbrev pub decreases-loop-rest : goal.decreases-loop-rest
decreases-loop-rest l = length l.rest
