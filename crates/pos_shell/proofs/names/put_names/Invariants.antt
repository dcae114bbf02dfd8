use Rattle.std.proofs.Common.{◌≡◌, ◌++◌, take}
use Rattle.std.specs.Prelude.{flat_map}
use Rattle.pos_shell.specs.Names.{name_of}
use Rattle.pos_shell.proofs.names.put_names.Given as goal

abbrev pub invariant-loop-code : goal.invariant-loop-code
invariant-loop-code l = l.text.items ≡ l.fn.text.items ++ flat_map (name_of l.kind l.word) (take l.code-index l.codes)
