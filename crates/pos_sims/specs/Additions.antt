-- What an order adds to a receipt.
use Rattle.std.specs.Prelude.{◌≡◌, ◌++◌, List, []}
use Rattle.pos_service.specs.declared.order.Order.{Order}
use Rattle.pos_service.specs.declared.order.Order.TheVariants as order
use Rattle.pos_service.specs.declared.order.Reply.TheVariants as reply
use Rattle.pos_service.specs.declared.plant.Mechanism.TheVariants as mechanism
use Rattle.pos_service.specs.declared.plant.Plant.{Plant}
use Rattle.pos_service.specs.declared.receipt_text.Piece.{Piece}
use Rattle.pos_service.specs.Peripherals.{Performs}
use Rattle.pos_service.specs.Receipts.{Printer, cut_pieces, pieces, printed_by}

-- the pieces that an order prints
abbrev pub pieces_ordered : Order → List Piece
pieces_ordered (order.Print bytes) = pieces bytes
pieces_ordered (order.Cut percentage) = cut_pieces percentage
pieces_ordered other = []

-- The order adds the items of a roll to a printer, which is that roll with its old items before them.
pub record Adds (plant : Plant) (asked : Order) (roll : Printer) : Type 0 where
  pub printer : Printer
  pub stands : plant.mechanism ≡ mechanism.Printer printer
  pub items : roll.items ≡ (printed_by printer.chars printer.buffer (pieces_ordered asked)).items
  pub done : Performs asked plant reply.Done
      (record plant { mechanism = mechanism.Printer (record roll { items = printer.items ++ roll.items }) })

-- A printer doesn't carry the order out.
abbrev pub PrintsNothing : Plant → Order → Type 0
PrintsNothing plant asked =
    (printer : Printer) → plant.mechanism ≡ mechanism.Printer printer → (new : Plant)
    → Performs asked plant reply.Done new → ⊥
