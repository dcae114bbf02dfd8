-- The text of a receipt printer, and what printing leaves (UnifiedPOS 1.16, chapter POS Printer).
use Rattle.std.specs.Prelude.{◌≡◌, ℕ, ◌+◌, ◌-◌, ◌*◌, suc, zero, Bool, true, false, not, ◌&&◌, ◌||◌, List, [], ◌∷◌, ◌++◌}
use Rattle.std.specs.Prelude.{length, take, drop, map, replicate, nat_le, nat_lt, ◌==◌, bytes_eq, codes, if◌then◌else◌}
use Rattle.std.specs.List.{list_all, fold, prefix_len}
use Rattle.pos_service.specs.declared.receipt_text.Alignment.{Alignment}
use Rattle.pos_service.specs.declared.receipt_text.Alignment.TheVariants as alignment
use Rattle.pos_service.specs.declared.receipt_text.Piece.{Piece}
use Rattle.pos_service.specs.declared.receipt_text.Piece.TheVariants as piece
use Rattle.pos_service.specs.declared.receipt_text.Token.{Token}
use Rattle.pos_service.specs.declared.receipt_text.Token.TheVariants as token
use Rattle.pos_service.specs.declared.receipt_text.PrintedCharacter.{PrintedCharacter}
use Rattle.pos_service.specs.declared.receipt_text.Mark.{Mark}
use Rattle.pos_service.specs.declared.receipt_text.Mark.TheVariants as mark
use Rattle.pos_service.specs.declared.order.Reply.{Reply}
use Rattle.pos_service.specs.declared.order.Reply.TheVariants as reply
use Rattle.pos_service.specs.declared.signs.PaperLevel.{PaperLevel}
use Rattle.pos_service.specs.declared.signs.PaperLevel.TheVariants as paper

-- Bytes are read as a list of pieces, each by the first rule that fits.

-- an upper-case letter, which ends an escape sequence
abbrev pub is_upper : ℕ → Bool
is_upper b = nat_le 65 b && nat_le b 90

-- a byte that an escape sequence may have before its last
abbrev pub is_inner : ℕ → Bool
is_inner b = nat_le 32 b && nat_le b 126 && not (is_upper b)

-- a decimal digit
abbrev pub is_digit : ℕ → Bool
is_digit b = nat_le 48 b && nat_le b 57

-- the first byte, if there is one, passes a test
abbrev pub starts_with : (ℕ → Bool) → List ℕ → Bool
starts_with test [] = false
starts_with test (b ∷ bs) = test b

-- the number that decimal digits write
abbrev pub number_of : List ℕ → ℕ
number_of digits = fold (λ n b. n * 10 + (b - 48)) 0 digits

-- the number that digits write, or another where there is none
abbrev pub number_or : ℕ → List ℕ → ℕ
number_or none digits = if length digits == 0 then none else number_of digits

-- a cut of 1 to 100 percent; a cut of 0 percent is none
abbrev pub cut_pieces : ℕ → List Piece
cut_pieces n = if n == 0 then [] else (if nat_le n 100 then piece.Cut n ∷ [] else piece.OutOfRange ∷ [])

-- 0 to 255 line ends
abbrev pub line_end_pieces : ℕ → List Piece
line_end_pieces n = if nat_le n 255 then replicate n piece.LineEnd else piece.OutOfRange ∷ []

-- digits and then letters: nP and nfP cut n percent, 100 where no digit stands; nlF is n line ends, 1 where none stands
abbrev pub numbered_pieces : List ℕ → List ℕ → List Piece
numbered_pieces digits letters =
    if bytes_eq letters (codes "P") then cut_pieces (number_or 100 digits)
    else (if bytes_eq letters (codes "fP") then cut_pieces (number_or 100 digits)
    else (if bytes_eq letters (codes "lF") then line_end_pieces (number_or 1 digits) else []))

-- the bytes of an escape sequence behind ESC |: bC bold, cA centred, rA to the right, N neither bold nor aligned, else
-- a number and letters; another sequence is dropped
abbrev pub sequence_pieces : List ℕ → List Piece
sequence_pieces bytes =
    if bytes_eq bytes (codes "bC") then piece.Bold ∷ []
    else (if bytes_eq bytes (codes "cA") then piece.Align alignment.Center ∷ []
    else (if bytes_eq bytes (codes "rA") then piece.Align alignment.Right ∷ []
    else (if bytes_eq bytes (codes "N") then piece.Normal ∷ []
    else numbered_pieces (take (prefix_len is_digit bytes) bytes) (drop (prefix_len is_digit bytes) bytes))))

-- what is read at a byte: the pieces that it stands for, and how many of the bytes behind it belong to it
pub record Reading : Type 0 where
  pub pieces : List Piece
  pub more : ℕ

-- ESC | before these bytes: an escape sequence up to an upper-case letter behind the inner bytes, else dropped
abbrev pub escape_sequence : List ℕ → Reading
escape_sequence bs =
    if starts_with is_upper (drop (prefix_len is_inner bs) bs)
    then record { pieces = sequence_pieces (take (prefix_len is_inner bs + 1) bs); more = prefix_len is_inner bs + 2 }
    else record { pieces = []; more = 1 }

-- ESC before these bytes: without | it is dropped
abbrev pub reading_after_escape : List ℕ → Reading
reading_after_escape [] = record { pieces = []; more = 0 }
reading_after_escape (b ∷ bs) = if b == 124 then escape_sequence bs else record { pieces = []; more = 0 }

-- a carriage return before these bytes: before a line feed it is dropped
abbrev pub return_pieces : List ℕ → List Piece
return_pieces bs = if starts_with (λ next. next == 10) bs then [] else piece.Return ∷ []

-- a byte before these bytes: ESC, a line feed, a carriage return, or a character
abbrev pub reading_at : ℕ → List ℕ → Reading
reading_at b bs =
    if b == 27 then reading_after_escape bs
    else (if b == 10 then record { pieces = piece.LineEnd ∷ []; more = 0 }
    else (if b == 13 then record { pieces = return_pieces bs; more = 0 }
    else record { pieces = piece.Character b ∷ []; more = 0 }))

-- the pieces of bytes of which the first few belong to what was read before them
abbrev pub pieces_past : ℕ → List ℕ → List Piece
pieces_past n [] = []
pieces_past (suc n) (b ∷ bs) = pieces_past n bs
pieces_past zero (b ∷ bs) = (reading_at b bs).pieces ++ pieces_past (reading_at b bs).more bs

-- the pieces of the data of a request
abbrev pub pieces : List ℕ → List Piece
pieces bytes = pieces_past 0 bytes

-- a byte that data may have: a line feed, a carriage return, ESC, or 0x20 to 0x7E
abbrev pub is_printable_byte : ℕ → Bool
is_printable_byte b = b == 10 || b == 13 || b == 27 || (nat_le 32 b && nat_le b 126)

-- no escape sequence whose number is out of its range
abbrev pub is_in_range : Piece → Bool
is_in_range piece.OutOfRange = false
is_in_range (piece.Character b) = true
is_in_range piece.LineEnd = true
is_in_range piece.Return = true
is_in_range (piece.Cut n) = true
is_in_range piece.Bold = true
is_in_range (piece.Align to) = true
is_in_range piece.Normal = true

-- data that a printer takes: at most 4,096 such bytes, no number in them out of its range
abbrev pub is_printable_text : List ℕ → Bool
is_printable_text bytes =
    nat_le (length bytes) 4096 && list_all is_printable_byte bytes && list_all is_in_range (pieces bytes)

-- the pieces of a token
abbrev pub pieces_in : Token → List Piece
pieces_in token.Nothing = []
pieces_in (token.One p) = p ∷ []
pieces_in (token.LineEnds n) = replicate n piece.LineEnd

-- Pieces are printed by segments: the characters between two ends or cuts.

-- what is printed: a line of characters, or a cut
pub data Item : Type 0 where
  Line : (alignment : Alignment) (characters : List PrintedCharacter) → Item
  CutAt : (percentage : ℕ) → Item

-- how characters are printed
pub record Style : Type 0 where
  pub is_bold : Bool
  pub alignment : Alignment

-- neither bold nor aligned: each request begins so
abbrev pub plain : Style
plain = record { is_bold = false; alignment = alignment.Left }

-- a character of a segment, with the alignment that was in force at it
pub record SegmentCharacter : Type 0 where
  pub character : PrintedCharacter
  pub alignment : Alignment

-- a byte as a character of a segment
abbrev pub in_style : Style → ℕ → SegmentCharacter
in_style style byte = record {
  character = record { byte = byte; is_bold = style.is_bold };
  alignment = style.alignment;
}

-- what is printed, in order, and the line buffer
pub record Printout : Type 0 where
  pub items : List Item
  pub buffer : List PrintedCharacter

-- a printout behind items that are there
abbrev pub after_items : List Item → Printout → Printout
after_items items made = record { items = items ++ made.items; buffer = made.buffer }

-- the characters of a segment
abbrev pub characters_of : List SegmentCharacter → List PrintedCharacter
characters_of segment = map (λ s. s.character) segment

-- the alignment at the first character
abbrev pub first_alignment : List SegmentCharacter → Alignment
first_alignment [] = alignment.Left
first_alignment (s ∷ segment) = s.alignment

-- the first chunk of a segment that goes on: a line with the alignment at the next character
abbrev pub overflowed : ℕ → List SegmentCharacter → Item
overflowed chars segment = Line (first_alignment (drop chars segment)) (characters_of (take chars segment))

-- A segment in chunks of `chars`, of which there are at most `most` and one: each but the last has overflowed, and the
-- last is in the buffer.
abbrev pub in_chunks : ℕ → ℕ → List SegmentCharacter → Printout
in_chunks zero chars segment = record { items = []; buffer = characters_of segment }
in_chunks (suc most) chars segment =
    if nat_le (length segment) chars then record { items = []; buffer = characters_of segment }
    else after_items (overflowed chars segment ∷ []) (in_chunks most chars (drop chars segment))

-- a segment in chunks; an empty one is one empty chunk
abbrev pub chunks_of : ℕ → List SegmentCharacter → Printout
chunks_of chars segment = in_chunks (length segment) chars segment

-- the lines of a segment that ends: each chunk is a line, the last with the alignment at the end
abbrev pub lines_of : ℕ → Alignment → List SegmentCharacter → List Item
lines_of chars at_end segment = (chunks_of chars segment).items ++ Line at_end (chunks_of chars segment).buffer ∷ []

-- the lines of a segment at a carriage return or a cut: an empty one has none
abbrev pub lines_if_begun : ℕ → Alignment → List SegmentCharacter → List Item
lines_if_begun chars at_end [] = []
lines_if_begun chars at_end (s ∷ segment) = lines_of chars at_end (s ∷ segment)

-- what pieces make behind the segment so far, in a style
abbrev pub printed_from : ℕ → Style → List SegmentCharacter → List Piece → Printout
printed_from chars style segment [] = chunks_of chars segment
printed_from chars style segment (piece.Character byte ∷ ps) =
    printed_from chars style (segment ++ in_style style byte ∷ []) ps
printed_from chars style segment (piece.LineEnd ∷ ps) =
    after_items (lines_of chars style.alignment segment) (printed_from chars style [] ps)
printed_from chars style segment (piece.Return ∷ ps) =
    after_items (lines_if_begun chars style.alignment segment) (printed_from chars style [] ps)
printed_from chars style segment (piece.Cut n ∷ ps) =
    after_items (lines_if_begun chars style.alignment segment ++ CutAt n ∷ []) (printed_from chars style [] ps)
printed_from chars style segment (piece.Bold ∷ ps) = printed_from chars (record style { is_bold = true }) segment ps
printed_from chars style segment (piece.Align to ∷ ps) =
    printed_from chars (record style { alignment = to }) segment ps
printed_from chars style segment (piece.Normal ∷ ps) = printed_from chars plain segment ps
printed_from chars style segment (piece.OutOfRange ∷ ps) = printed_from chars style segment ps

-- the old line buffer as the beginning of a request's first segment
abbrev pub begun_segment : List PrintedCharacter → List SegmentCharacter
begun_segment buffer = map (λ character. record { character = character; alignment = alignment.Left }) buffer

-- what a request makes: items behind those that are there, and the new line buffer
abbrev pub printed_by : ℕ → List PrintedCharacter → List Piece → Printout
printed_by chars buffer ps = printed_from chars plain (begun_segment buffer) ps

-- the lines of paper that a request needs: those which it ends
abbrev pub lines_needed : List Item → ℕ
lines_needed [] = 0
lines_needed (Line a characters ∷ items) = 1 + lines_needed items
lines_needed (CutAt n ∷ items) = lines_needed items

-- a printer: the characters of a line, what is printed, the line buffer, the lines of paper left, and its cover
pub record Printer : Type 0 where
  pub chars : ℕ
  pub items : List Item
  pub buffer : List PrintedCharacter
  pub left : ℕ
  pub is_cover_open : Bool

-- a printer that has printed nothing, with so many lines of paper left, and the cover closed
abbrev pub empty_roll : ℕ → ℕ → Printer
empty_roll chars lines = record { chars = chars; items = []; buffer = []; left = lines; is_cover_open = false }

-- What a printer replies to a request that needs so many lines: it is done where the cover is closed, a line is left,
-- and no more are needed than are left; else the cover is open, or the paper has ended.
abbrev pub outcome_of : Printer → ℕ → Reply
outcome_of printer needed =
    if printer.is_cover_open then reply.CoverOpen
    else (if nat_lt 0 printer.left && nat_le needed printer.left then reply.Done else reply.PaperEnd)

-- the printer after a request that is done
abbrev pub with_printout : Printer → Printout → Printer
with_printout printer made = record printer {
  items = printer.items ++ made.items;
  buffer = made.buffer;
  left = printer.left - lines_needed made.items;
}

-- the printer after a request: all of it is printed, or nothing
abbrev pub printer_after : Reply → Printer → Printout → Printer
printer_after reply.Done printer made = with_printout printer made
printer_after other printer made = printer

-- From the old printer, a request of these pieces has this reply and leaves the new one.
pub record Prints (old : Printer) (ps : List Piece) (answer : Reply) (new : Printer) : Type 0 where
  pub outcome : answer ≡ outcome_of old (lines_needed (printed_by old.chars old.buffer ps).items)
  pub printer : new ≡ printer_after answer old (printed_by old.chars old.buffer ps)

-- how much paper a printer has at so many lines left: none, near their end at 1 to `near`, else enough
abbrev pub paper_level : ℕ → ℕ → PaperLevel
paper_level near left = if left == 0 then paper.Empty else (if nat_le left near then paper.NearEnd else paper.Good)

-- the paper has ended (property RecEmpty)
abbrev pub is_empty : PaperLevel → Bool
is_empty paper.Empty = true
is_empty level = false

-- the paper is near its end, or has ended (property RecNearEnd)
abbrev pub is_near_end : PaperLevel → Bool
is_near_end paper.Good = false
is_near_end level = true

-- Items may be kept in two flat lists: where the lines end and the cuts are, and all characters, those of the line
-- buffer last.

-- how many characters the lines have
abbrev pub characters_in : List Mark → ℕ
characters_in [] = 0
characters_in (mark.Line alignment n ∷ marks) = n + characters_in marks
characters_in (mark.Cut n ∷ marks) = characters_in marks

-- the items
abbrev pub items_from : List Mark → List PrintedCharacter → List Item
items_from [] characters = []
items_from (mark.Line alignment n ∷ marks) characters =
    Line alignment (take n characters) ∷ items_from marks (drop n characters)
items_from (mark.Cut n ∷ marks) characters = CutAt n ∷ items_from marks characters

-- the line buffer
abbrev pub buffer_from : List Mark → List PrintedCharacter → List PrintedCharacter
buffer_from marks characters = drop (characters_in marks) characters
