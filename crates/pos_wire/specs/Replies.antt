-- The first reply in what came of a printer.
use Rattle.std.specs.Prelude.{◌≡◌, ◌<◌, ℕ, List, [], ◌∷◌, take, drop, Option, Some, None}
use Rattle.pos_escpos.specs.declared.statuses.PrinterReply.{PrinterReply}
use Rattle.pos_escpos.specs.Replies.{Reader, reading_of}
use Rattle.pos_wire.specs.declared.replies.AwaitedReply.{AwaitedReply}
use Rattle.pos_wire.specs.declared.replies.AwaitedReply.TheVariants as asked
use Rattle.pos_wire.specs.declared.replies.ReplyRead.{ReplyRead}

-- a reader that expects the reply to what was asked
abbrev pub reader_of : AwaitedReply → Reader
reader_of asked.Nothing = record { asked_now = None; asked_in_order = None; begun = [] }
reader_of (asked.Now status) = record { asked_now = Some status; asked_in_order = None; begun = [] }
reader_of (asked.InOrder status) = record { asked_now = None; asked_in_order = Some status; begun = [] }

-- The bytes that are used are this reply and others that are none, of which there are so many. The reply is the first:
-- no shorter front of the bytes holds one.
pub record EndsWith (reader : Reader) (bytes : List ℕ) (read : ReplyRead) (told : PrinterReply) : Type 0 where
  pub left : Reader
  pub one : reading_of reader (take read.used bytes)
      ≡ record { replies = told ∷ []; skipped = read.skipped; reader = left }
  pub whole : left.begun ≡ []
  pub first : (count : ℕ) → count < read.used → (reading_of reader (take count bytes)).replies ≡ []

-- No reply ends in the bytes. Those used are none, and the others are of a reply that has begun: where they are read
-- again, the reader comes to be as it is after all of them.
pub record HasNone (reader : Reader) (bytes : List ℕ) (read : ReplyRead) : Type 0 where
  pub left : Reader
  pub none : reading_of reader bytes ≡ record { replies = []; skipped = read.skipped; reader = left }
  pub used : read.used ≡ read.skipped
  pub again : reading_of reader (drop read.used bytes) ≡ record { replies = []; skipped = 0; reader = left }

-- the first reply, or none
abbrev pub Reads : Reader → List ℕ → ReplyRead → Option PrinterReply → Type 0
Reads reader bytes read (Some told) = EndsWith reader bytes read told
Reads reader bytes read None = HasNone reader bytes read
