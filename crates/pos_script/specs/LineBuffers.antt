-- What a line buffer keeps of a script that comes in pieces (docs/reference/console.md, "Lines").
use Rattle.std.specs.Prelude.{◌≡◌, ◌<◌, ◌++◌, ℕ, Bool, true, false, not, List, [], ◌∷◌, Option, Some, None, length}
use Rattle.std.specs.Prelude.{nat_le, ◌==◌, if◌then◌else◌, MatchOption}
use Rattle.std.specs.Bool.{MatchBool}
use Rattle.std.specs.List.{list_all}
use Rattle.pos_script.specs.Lines.{complete_lines, unfinished, lines_of, without_cr, is_nothing, is_plain, is_space}
use Rattle.pos_script.specs.Lines.{is_quiet, is_well_spelled}
use Rattle.pos_script.specs.declared.line_buffer.LongLineKind.{LongLineKind}
use Rattle.pos_script.specs.declared.line_buffer.LongLineKind.TheVariants as look
use Rattle.pos_script.specs.declared.line_buffer.Line.{Line}
use Rattle.pos_script.specs.declared.line_buffer.Line.TheVariants as line
use Rattle.pos_script.specs.declared.line_buffer.EndedLine.{EndedLine}
use Rattle.pos_script.specs.declared.line_buffer.EndedLine.TheVariants as ended

-- how many bytes of a line are kept: those of the longest line that isn't refused, and a carriage return
abbrev pub most_kept : ℕ
most_kept = 140001

-- whether a byte isn't a line feed
abbrev pub is_no_feed : ℕ → Bool
is_no_feed b = not (b == 10)

-- whether there is no line feed among bytes
abbrev pub have_no_feed : List ℕ → Bool
have_no_feed bytes = list_all is_no_feed bytes

-- whether bytes are plain
abbrev pub are_plain : List ℕ → Bool
are_plain bytes = list_all is_plain bytes

-- whether a line's first byte is `#`
abbrev pub is_comment : List ℕ → Bool
is_comment [] = false
is_comment (b ∷ bs) = b == 35

-- how a line looks: by whether it is a comment, is blank, and is blank but for a carriage return at its end
abbrev pub look_from : Bool → Bool → Bool → LongLineKind
look_from true blank almost = look.Comment
look_from false true almost = look.Blank
look_from false false true = look.BlankThenReturn
look_from false false false = look.Loud

-- whether a line is nothing but spaces
abbrev pub is_blank : List ℕ → Bool
is_blank line = list_all is_space line

-- how a line looks
abbrev pub look_of : List ℕ → LongLineKind
look_of line = look_from (is_comment line) (is_blank line) (is_blank (without_cr line))

-- how a line looks that goes on by bytes, where it isn't empty before them
abbrev pub look_with : LongLineKind → List ℕ → LongLineKind
look_with look [] = look
look_with look.Comment (b ∷ bs) = look.Comment
look_with look.Blank (b ∷ bs) = look_from false (is_blank (b ∷ bs)) (is_blank (without_cr (b ∷ bs)))
look_with look.BlankThenReturn (b ∷ bs) = look.Loud
look_with look.Loud (b ∷ bs) = look.Loud

-- how a line looks at its line feed, where a carriage return before it doesn't count
abbrev pub look_ended : LongLineKind → LongLineKind
look_ended look.Comment = look.Comment
look_ended look.Blank = look.Blank
look_ended look.BlankThenReturn = look.Blank
look_ended look.Loud = look.Loud

-- whether a line that looks so prints nothing
abbrev pub is_quiet_look : LongLineKind → Bool
is_quiet_look look.Comment = true
is_quiet_look look.Blank = true
is_quiet_look look.BlankThenReturn = false
is_quiet_look look.Loud = false

-- what is kept of a line: all of it, or how it looks
pub data Kept : Type 0 where
  Whole : List ℕ → Kept
  TooLong : LongLineKind → Kept

-- what is kept, by the bytes that are kept and by how the line looks where it is too long
abbrev pub kept_from : List ℕ → Option LongLineKind → Kept
kept_from bytes None = Whole bytes
kept_from bytes (Some look) = TooLong look

-- what is kept of bytes among which there is no line feed
abbrev pub kept_of : List ℕ → Kept
kept_of bytes = if nat_le (length bytes) most_kept then Whole bytes else TooLong (look_of bytes)

-- what is kept with bytes behind it, among which there is no line feed
abbrev pub kept_with : Kept → List ℕ → Kept
kept_with (Whole bytes) more = kept_of (bytes ++ more)
kept_with (TooLong look) more = TooLong (look_with look more)

-- what is kept of a line at its line feed
abbrev pub kept_ended : Kept → Kept
kept_ended (Whole bytes) = Whole (without_cr bytes)
kept_ended (TooLong look) = TooLong (look_ended look)

-- what is kept stands for what is unfinished of the bytes that were read
abbrev pub StandsFor : Kept → List ℕ → Type 0
StandsFor kept read = kept ≡ kept_of (unfinished read)

-- whether nothing is kept
abbrev pub is_kept_nothing : Kept → Bool
is_kept_nothing (Whole bytes) = is_nothing bytes
is_kept_nothing (TooLong look) = false

-- what is kept is a line, or of one that is too long what decides whether it is quiet
abbrev pub IsHeld : Kept → List ℕ → Type 0
IsHeld (Whole bytes) line = bytes ≡ line
IsHeld (TooLong look) line = (140000 < length line) × (is_quiet line ≡ is_quiet_look look)

-- behind what was read these bytes end no line
abbrev pub EndsNone : List ℕ → List ℕ → Kept → Type 0
EndsNone read bytes kept = (complete_lines (read ++ bytes) ≡ complete_lines read) × StandsFor kept (read ++ bytes)

-- whether there is a last line, which lacks its line feed; it is held where there is
abbrev pub EndsInput : List ℕ → Bool → Kept → Type 0
EndsInput read is_empty kept =
    MatchBool is_empty (lines_of read ≡ complete_lines read)
    ((lines_of read ≡ complete_lines read ++ unfinished read ∷ []) × IsHeld kept (unfinished read))

-- a line is this: quiet, not quiet and not well spelled, or these bytes
abbrev pub IsLine : Line → List ℕ → Type 0
IsLine line.Quiet bytes = is_quiet bytes ≡ true
IsLine line.Misspelled bytes = (is_quiet bytes ≡ false) × (is_well_spelled bytes ≡ false)
IsLine (line.Words words) bytes =
    (is_quiet bytes ≡ false) × (is_well_spelled bytes ≡ true) × (words.now ≡ bytes)

-- a line that a piece ended is what is kept, or is given
abbrev pub IsEnded : EndedLine → Kept → List ℕ → Type 0
IsEnded ended.Held kept bytes = IsHeld kept bytes
IsEnded (ended.InPiece given) kept bytes = IsLine given bytes

-- behind what was read these bytes end a line
abbrev pub EndsLine : List ℕ → List ℕ → EndedLine → Kept → Type 0
EndsLine read bytes ended kept =
    (line : List ℕ) × (complete_lines (read ++ bytes) ≡ complete_lines read ++ line ∷ [])
    × (unfinished (read ++ bytes) ≡ []) × IsEnded ended kept line

-- what is kept after a piece behind what was read: of a piece that ends a line the line is told and the rest is left,
-- and else nothing
abbrev pub Feeds : List ℕ → List ℕ → Option (EndedLine × List ℕ) → Kept → Type 0
Feeds read piece found kept =
    MatchOption found (EndsNone read piece kept)
    (λ left. (taken : List ℕ) × (piece ≡ taken ++ left.1) × EndsLine read taken left.0 kept)
