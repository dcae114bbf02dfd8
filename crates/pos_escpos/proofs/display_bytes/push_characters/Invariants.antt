use Rattle.std.proofs.Common.{◌≡◌, ◌++◌, drop}
use Rattle.pos_escpos.specs.DisplayBytes.{characters_of}
use Rattle.pos_escpos.proofs.display_bytes.push_characters.Given as goal

-- what is written and what is left are the whole
abbrev pub invariant-loop-cell : goal.invariant-loop-cell
invariant-loop-cell l =
    l.out.items ++ characters_of (drop l.cell-index l.cells) ≡ l.fn.out.items ++ characters_of l.cells
