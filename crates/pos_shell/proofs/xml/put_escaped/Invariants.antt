use Rattle.std.proofs.Common.{flat_map, length, ◌++◌, ◌≡◌}
use Rattle.pos_shell.specs.Xml.{escaped, pieces_from}
use Rattle.pos_shell.proofs.xml.put_escaped.Given as goal

abbrev pub invariant-loop-byte : goal.invariant-loop-byte
invariant-loop-byte l =
    l.text.items ++ flat_map (λ part. part) (pieces_from l.known l.left) ≡ l.fn.text.items ++ escaped l.bytes

abbrev pub decreases-loop-byte : goal.decreases-loop-byte
decreases-loop-byte l = length l.left
