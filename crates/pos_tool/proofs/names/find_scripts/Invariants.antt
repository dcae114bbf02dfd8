use Rattle.std.proofs.Common.{take}
use Rattle.pos_tool.specs.Names.{FindsAll}
use Rattle.pos_tool.specs.Texts.{texts}
use Rattle.pos_tool.proofs.names.find_scripts.Given as goal

-- the scripts of the paths so far
abbrev pub invariant-loop-path : goal.invariant-loop-path
invariant-loop-path g l = FindsAll g.S.Folder l.system (take l.path-index l.paths) (texts l.found.items)
