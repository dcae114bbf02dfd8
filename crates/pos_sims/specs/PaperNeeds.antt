-- How many lines of paper a request needs, by how many characters the line buffer has.
use Rattle.std.specs.Prelude.{ℕ, ◌+◌, ◌==◌, List, if◌then◌else◌}
use Rattle.std.specs.List.{fold}
use Rattle.pos_service.specs.declared.order.Reply.{Reply}
use Rattle.pos_service.specs.declared.receipt_text.Piece.{Piece}
use Rattle.pos_service.specs.declared.receipt_text.Piece.TheVariants as piece
use Rattle.pos_service.specs.Receipts.{Printer, lines_needed, outcome_of, printed_by}
use Rattle.pos_sims.specs.declared.paper_needs.Need.{Need}

-- so many characters in the line buffer, and so many lines used
abbrev pub need : ℕ → ℕ → Need
need begun lines = record { begun = begun; lines = lines }

-- the line ends
abbrev pub end_need : Need → Need
end_need n = need 0 (n.lines + 1)

-- the line ends if it has begun
abbrev pub end_begun_need : Need → Need
end_begun_need n = if n.begun == 0 then n else end_need n

-- the line ends if it is full
abbrev pub end_full_need : ℕ → Need → Need
end_full_need chars n = if n.begun == chars then end_need n else n

-- one more character
abbrev pub push_need : Need → Need
push_need n = need (n.begun + 1) n.lines

-- one piece
abbrev pub need_step : ℕ → Need → Piece → Need
need_step chars n (piece.Character byte) = push_need (end_full_need chars n)
need_step chars n piece.LineEnd = end_need n
need_step chars n piece.Return = end_begun_need n
need_step chars n (piece.Cut k) = end_begun_need n
need_step chars n other = n

-- pieces one by one
abbrev pub needs : ℕ → Need → List Piece → Need
needs chars n ps = fold (need_step chars) n ps

-- what a printer replies to a request of these pieces
abbrev pub outcome_by : Printer → List Piece → Reply
outcome_by printer ps = outcome_of printer (lines_needed (printed_by printer.chars printer.buffer ps).items)
