use Rattle.std.proofs.Common.{◌≡◌, ◌++◌, drop, false}
use Rattle.pos_escpos.specs.PrinterBytes.{run_bytes}
use Rattle.pos_escpos.proofs.printer_bytes.push_run.Given as goal

-- what is written and what is left are the whole
abbrev pub invariant-loop-character : goal.invariant-loop-character
invariant-loop-character l = l.out.items ++ run_bytes l.is_bold (drop l.character-index l.characters)
    ≡ l.fn.out.items ++ run_bytes false l.characters
