use Rattle.std.proofs.Common.{◌≡◌, ◌+◌, drop, length}
use Rattle.pos_service.specs.Receipts.{items_from}
use Rattle.pos_escpos.specs.ReceiptProgress.{line_characters}
use Rattle.pos_escpos.proofs.receipt_progress.line_characters.Given as goal

-- what is counted and the lines that are left have all characters
abbrev pub invariant-loop-mark : goal.invariant-loop-mark
invariant-loop-mark l = record {
  counted : l.count + line_characters (items_from (drop l.mark-index l.marks) l.rest)
      ≡ line_characters (items_from l.marks l.characters);
  left : l.count + length l.rest ≡ length l.characters;
}
