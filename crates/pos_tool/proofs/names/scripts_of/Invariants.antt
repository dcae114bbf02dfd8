use Rattle.std.proofs.Common.{flat_map, take, ◌≡◌}
use Rattle.pos_tool.specs.Names.{script_of}
use Rattle.pos_tool.specs.Texts.{texts}
use Rattle.pos_tool.proofs.names.scripts_of.Given as goal

-- the scripts of the names so far
abbrev pub invariant-loop-name : goal.invariant-loop-name
invariant-loop-name l = texts l.scripts.items ≡ flat_map script_of (texts (take l.name-index l.names))
