-- What is sent to a receipt printer, and what is to be on its paper.
use Rattle.std.specs.Prelude.{◌≡◌, ℕ, Bool, true, false, List, [], ◌∷◌, ◌++◌, length, map, nat_le, ◌==◌, ◌&&◌}
use Rattle.std.specs.Prelude.{if◌then◌else◌, Some}
use Rattle.std.specs.List.{flat_map, list_all}
use Rattle.pos_service.specs.declared.receipt_text.Alignment.{Alignment}
use Rattle.pos_service.specs.declared.receipt_text.Alignment.TheVariants as alignment
use Rattle.pos_service.specs.declared.receipt_text.PrintedCharacter.{PrintedCharacter}
use Rattle.pos_service.specs.Receipts.{Item, Line, CutAt, Printout}
use Rattle.pos_escpos.specs.declared.settings.Cutter.{Cutter}
use Rattle.pos_escpos.specs.declared.settings.Cutter.TheVariants as cutter
use Rattle.pos_escpos.specs.declared.settings.CutSettings.{CutSettings}
use Rattle.pos_escpos.specs.Printers.{OnPaper, PrintedLine, CutThrough, Fed}

-- a cut of so many percent: of a cutter that cuts both ways only 100 percent is a full cut, and without a cutter the
-- paper is fed
abbrev pub cut_on_paper : Cutter → ℕ → ℕ → OnPaper
cut_on_paper cutter.Both feed n = CutThrough (n == 100) (Some feed)
cut_on_paper cutter.Full feed n = CutThrough true (Some feed)
cut_on_paper cutter.Partial feed n = CutThrough false (Some feed)
cut_on_paper cutter.Absent feed n = Fed feed

-- an item of the device machine, on the paper
abbrev pub on_paper : CutSettings → Item → OnPaper
on_paper cut (Line alignment characters) = PrintedLine alignment characters
on_paper cut (CutAt n) = cut_on_paper cut.cutter cut.feed n

-- items of the device machine, on the paper
abbrev pub all_on_paper : CutSettings → List Item → List OnPaper
all_on_paper cut items = map (on_paper cut) items

-- a byte that is a character
abbrev pub is_character : PrintedCharacter → Bool
is_character character = nat_le 32 character.byte && nat_le character.byte 126

-- an item fits a printer: a line has at most so many characters, and no other byte
abbrev pub item_fits : ℕ → Item → Bool
item_fits columns (Line alignment characters) =
    nat_le (length characters) columns && list_all is_character characters
item_fits columns (CutAt n) = true

-- each item fits
abbrev pub all_fit : ℕ → List Item → Bool
all_fit columns items = list_all (item_fits columns) items

-- what a request makes fits a printer, and its line buffer has characters alone
pub record FitsPrinter (columns : ℕ) (made : Printout) : Type 0 where
  pub items : all_fit columns made.items ≡ true
  pub buffer : list_all is_character made.buffer ≡ true

-- the number of an alignment in ESC a
abbrev pub alignment_number_of : Alignment → ℕ
alignment_number_of alignment.Left = 0
alignment_number_of alignment.Center = 1
alignment_number_of alignment.Right = 2

-- ESC E where bold changes
abbrev pub bold_bytes : Bool → Bool → List ℕ
bold_bytes true true = []
bold_bytes true false = 27 ∷ 69 ∷ 0 ∷ []
bold_bytes false true = 27 ∷ 69 ∷ 1 ∷ []
bold_bytes false false = []

-- the characters of a line behind bold ones or not; at its end bold is off
abbrev pub run_bytes : Bool → List PrintedCharacter → List ℕ
run_bytes was [] = bold_bytes was false
run_bytes was (character ∷ characters) =
    bold_bytes was character.is_bold ++ character.byte ∷ run_bytes character.is_bold characters

-- a line: its alignment, its characters, LF
abbrev pub line_bytes : Alignment → List PrintedCharacter → List ℕ
line_bytes alignment characters =
    (27 ∷ 97 ∷ alignment_number_of alignment ∷ []) ++ run_bytes false characters ++ 10 ∷ []

-- a cut: GS V with a feed, or without a cutter ESC d
abbrev pub cut_bytes : Cutter → ℕ → ℕ → List ℕ
cut_bytes cutter.Both feed n = 29 ∷ 86 ∷ (if n == 100 then 65 else 66) ∷ feed ∷ []
cut_bytes cutter.Full feed n = 29 ∷ 86 ∷ 65 ∷ feed ∷ []
cut_bytes cutter.Partial feed n = 29 ∷ 86 ∷ 66 ∷ feed ∷ []
cut_bytes cutter.Absent feed n = 27 ∷ 100 ∷ feed ∷ []

-- an item
abbrev pub item_bytes : CutSettings → Item → List ℕ
item_bytes cut (Line alignment characters) = line_bytes alignment characters
item_bytes cut (CutAt n) = cut_bytes cut.cutter cut.feed n

-- items in order
abbrev pub items_bytes : CutSettings → List Item → List ℕ
items_bytes cut items = flat_map (item_bytes cut) items
