use Rattle.std.proofs.Common.{map, take, ◌≡◌}
use Rattle.pos_tool.specs.Names.{in_folder}
use Rattle.pos_tool.specs.Texts.{texts}
use Rattle.pos_tool.proofs.names.all_in_folder.Given as goal

-- the paths of the names so far
abbrev pub invariant-loop-name : goal.invariant-loop-name
invariant-loop-name l = texts l.paths.items ≡ map (in_folder l.folder) (texts (take l.name-index l.names))
