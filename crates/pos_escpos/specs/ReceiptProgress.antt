-- How much of a receipt was sent to its printer.
use Rattle.std.specs.Prelude.{◌≡◌, ℕ, ◌+◌, List, [], ◌∷◌, ◌++◌, length}
use Rattle.pos_service.specs.Receipts.{Item, Line, CutAt}
use Rattle.pos_escpos.specs.declared.receipt_progress.SentReceipt.{SentReceipt}

-- how many characters the lines of items have
abbrev pub line_characters : List Item → ℕ
line_characters [] = 0
line_characters (Line alignment characters ∷ items) = length characters + line_characters items
line_characters (CutAt n ∷ items) = line_characters items

-- these items were sent
pub record IsSent (items : List Item) (sent : SentReceipt) : Type 0 where
  pub marks : sent.marks ≡ length items
  pub characters : sent.characters ≡ line_characters items

-- Of these items some were sent, and others were added since.
pub record Added (items : List Item) (sent : SentReceipt) (added : List Item) : Type 0 where
  pub before : List Item
  pub all : items ≡ before ++ added
  pub counted : IsSent before sent
