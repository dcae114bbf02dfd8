-- How a request is printed piece by piece, and what contracts see of the tape that it is printed on.
use Rattle.std.specs.Prelude.{◌≡◌, ℕ, ◌+◌, ◌<◌, Bool, true, List, [], ◌∷◌, ◌++◌, length, drop, ◌==◌, if◌then◌else◌}
use Rattle.std.specs.Prelude.{Result, Err}
use Rattle.std.specs.List.{fold}
use Rattle.pos_service.specs.declared.receipt_text.Alignment.{Alignment}
use Rattle.pos_service.specs.declared.receipt_text.PrintedCharacter.{PrintedCharacter}
use Rattle.pos_service.specs.declared.receipt_text.Piece.{Piece}
use Rattle.pos_service.specs.declared.receipt_text.Piece.TheVariants as piece
use Rattle.pos_service.specs.Receipts.{Line, CutAt, Style, plain, in_style, Printout, printed_by, items_from, Printer}
use Rattle.pos_service.specs.Receipts.{after_items, cut_pieces, lines_needed, pieces}
use Rattle.pos_sims.specs.declared.tape.Tape.{Tape}
use Rattle.pos_sims.specs.declared.tape.Asked.{Asked}
use Rattle.pos_sims.specs.declared.tape.Asked.TheVariants.{Cut, Text}
use Rattle.pos_sims.specs.declared.tape.PrintStop.{PrintStop}
use Rattle.pos_sims.specs.declared.tape.PrintStop.TheVariants as stop

-- the line buffer is a line
abbrev pub ended : Alignment → Printout → Printout
ended alignment made = record { items = made.items ++ Line alignment made.buffer ∷ []; buffer = [] }

-- a character behind the line buffer
abbrev pub pushed : PrintedCharacter → Printout → Printout
pushed character made = record { items = made.items; buffer = made.buffer ++ character ∷ [] }

-- one more character: where the line buffer is full it is a line first
abbrev pub put : ℕ → Alignment → PrintedCharacter → Printout → Printout
put chars alignment character made =
    if length made.buffer == chars then pushed character (ended alignment made) else pushed character made

-- a request at work: its style, what is printed, and how many lines it has used
pub record Work : Type 0 where
  pub style : Style
  pub made : Printout
  pub used : ℕ

-- the line ends
abbrev pub end_line : Work → Work
end_line work = record { style = work.style; made = ended work.style.alignment work.made; used = work.used + 1 }

-- the line ends if it has begun
abbrev pub end_begun : Work → Work
end_begun work = if length work.made.buffer == 0 then work else end_line work

-- the line ends if it is full
abbrev pub end_full : ℕ → Work → Work
end_full chars work = if length work.made.buffer == chars then end_line work else work

-- a character is put into the line buffer
abbrev pub put_character : PrintedCharacter → Work → Work
put_character character work = record { style = work.style; made = pushed character work.made; used = work.used }

-- the paper is cut
abbrev pub add_cut : ℕ → Work → Work
add_cut n work = record {
  style = work.style;
  made = record { items = work.made.items ++ CutAt n ∷ []; buffer = work.made.buffer };
  used = work.used;
}

-- another style is in force
abbrev pub restyle : Style → Work → Work
restyle style work = record { style = style; made = work.made; used = work.used }

-- one piece
abbrev pub step : ℕ → Work → Piece → Work
step chars work (piece.Character byte) = put_character (in_style work.style byte).character (end_full chars work)
step chars work piece.LineEnd = end_line work
step chars work piece.Return = end_begun work
step chars work (piece.Cut n) = add_cut n (end_begun work)
step chars work piece.Bold = restyle (record { is_bold = true; alignment = work.style.alignment }) work
step chars work (piece.Align to) = restyle (record { is_bold = work.style.is_bold; alignment = to }) work
step chars work piece.Normal = restyle plain work
step chars work piece.OutOfRange = work

-- pieces one by one
abbrev pub steps : ℕ → Work → List Piece → Work
steps chars work ps = fold (step chars) work ps

-- one list is the other with more at its end
pub record Extends {X : Type 0} (old new : List X) : Type 0 where
  pub more : List X
  pub is : new ≡ old ++ more

-- what is printed on a tape, and the line buffer
abbrev pub printed_on : Tape → Printout
printed_on tape = record {
  items = items_from tape.marks.items tape.characters.items;
  buffer = drop tape.start tape.characters.items;
}

-- the request that is at work on a tape
abbrev pub work_of : Tape → Work
work_of tape = record {
  style = record { is_bold = tape.is_bold; alignment = tape.alignment };
  made = printed_on tape;
  used = tape.used;
}

-- the request at work after these pieces
abbrev pub work_after : Tape → List Piece → Work
work_after tape ps = steps tape.chars (work_of tape) ps

-- what a request of these pieces prints on a tape
abbrev pub request_on : Tape → List Piece → Printout
request_on tape ps = printed_by tape.chars (printed_on tape).buffer ps

-- the lines that a request of these pieces needs
abbrev pub lines_on : Tape → List Piece → ℕ
lines_on tape ps = lines_needed (request_on tape ps).items

-- the pieces of what a request asks for
abbrev pub pieces_asked : Asked → List Piece
pieces_asked (Text bytes) = pieces bytes.now
pieces_asked (Cut percentage) = cut_pieces percentage

-- a request of these pieces is printed on the old tape
abbrev pub IsPrinted : Tape → List Piece → Tape → Type 0
IsPrinted old ps new = printed_on new ≡ after_items (printed_on old).items (request_on old ps)

-- it stopped for want of paper only where it uses more lines than it may
abbrev pub StopsShort : {T : Type 0} → Result T PrintStop → ℕ → ℕ → Type 0
StopsShort result limit used = result ≡ Err stop.PaperEnd → limit < used

-- characters and marks were only added
pub record Adds (old new : Tape) : Type 0 where
  pub characters : Extends old.characters.items new.characters.items
  pub marks : Extends old.marks.items new.marks.items
  pub chars : new.chars ≡ old.chars
  pub limit : new.limit ≡ old.limit

-- a printer with this tape, so many lines of paper left, and the cover open or not
abbrev pub printer_of : Tape → ℕ → Bool → Printer
printer_of tape left is_cover_open = record {
  chars = tape.chars;
  items = (printed_on tape).items;
  buffer = (printed_on tape).buffer;
  left = left;
  is_cover_open = is_cover_open;
}
