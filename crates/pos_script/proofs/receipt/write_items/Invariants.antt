use Rattle.std.proofs.Common.{◌≡◌, ◌++◌, ℕ, List, drop}
use Rattle.pos_streams.specs.Streams.{Appends}
use Rattle.pos_service.specs.Receipts.{items_from}
use Rattle.pos_script.specs.ReceiptText.{items_text}
use Rattle.pos_script.proofs.receipt.write_items.Given as goal

abbrev pub invariant-loop-mark : goal.invariant-loop-mark
invariant-loop-mark g l = (text : List ℕ) × Appends (g.W.Sink.given l.initial.writer) (g.W.Sink.given l.writer) text
    × (items_text (items_from l.marks l.characters)
    ≡ text ++ items_text (items_from (drop l.mark-index l.marks) l.rest))
