use Rattle.pos_tool.proofs.CopyLemmas.{HasTurns}
use Rattle.pos_tool.proofs.copies.read_steady.Given as goal

abbrev pub invariant-loop : goal.invariant-loop
invariant-loop g l = HasTurns g.F.BlockFile.calls l.fn.file l.file l.counter
