-- How a script falls into lines, and a line into words (docs/reference/console.md, "Lines" and "Words").
use Rattle.std.specs.Prelude.{ℕ, Bool, true, false, not, ◌&&◌, ◌||◌, List, [], ◌∷◌, length, take, slice_index, ◌-◌}
use Rattle.std.specs.Prelude.{nat_le, ◌==◌, if◌then◌else◌, filter}
use Rattle.std.specs.List.{list_all}

-- a byte before the first of some pieces
abbrev pub onto_first : ℕ → List (List ℕ) → List (List ℕ)
onto_first b [] = (b ∷ []) ∷ []
onto_first b (piece ∷ pieces) = (b ∷ piece) ∷ pieces

-- the pieces of a text between the bytes c, empty ones too
abbrev pub pieces : ℕ → List ℕ → List (List ℕ)
pieces c [] = [] ∷ []
pieces c (b ∷ bs) = if b == c then [] ∷ pieces c bs else onto_first b (pieces c bs)

-- whether there is no byte
abbrev pub is_nothing : List ℕ → Bool
is_nothing [] = true
is_nothing (b ∷ bs) = false

-- a line without a carriage return at its end
abbrev pub without_cr : List ℕ → List ℕ
without_cr line = if slice_index line (length line - 1) == 13 then take (length line - 1) line else line

-- each piece but the last was ended by a line feed, and the last counts where it isn't empty
abbrev pub lines_in : List (List ℕ) → List (List ℕ)
lines_in [] = []
lines_in (last ∷ []) = if is_nothing last then [] else last ∷ []
lines_in (line ∷ next ∷ more) = without_cr line ∷ lines_in (next ∷ more)

-- the lines of a script
abbrev pub lines_of : List ℕ → List (List ℕ)
lines_of bytes = lines_in (pieces 10 bytes)

-- the pieces that were ended by a line feed, which are all but the last
abbrev pub ended_in : List (List ℕ) → List (List ℕ)
ended_in [] = []
ended_in (last ∷ []) = []
ended_in (line ∷ next ∷ more) = without_cr line ∷ ended_in (next ∷ more)

-- the last of some pieces
abbrev pub last_in : List (List ℕ) → List ℕ
last_in [] = []
last_in (last ∷ []) = last
last_in (line ∷ next ∷ more) = last_in (next ∷ more)

-- the lines of a script that a line feed ended
abbrev pub complete_lines : List ℕ → List (List ℕ)
complete_lines bytes = ended_in (pieces 10 bytes)

-- what stands behind the last line feed of a script
abbrev pub unfinished : List ℕ → List ℕ
unfinished bytes = last_in (pieces 10 bytes)

-- the line that the end of a script ends: what stands behind the last line feed, where it isn't empty
abbrev pub last_line : List ℕ → List (List ℕ)
last_line rest = if is_nothing rest then [] else rest ∷ []

-- the words of a line, with one or more spaces between them
abbrev pub words_of : List ℕ → List (List ℕ)
words_of line = filter (λ word. not (is_nothing word)) (pieces 32 line)

-- whether a byte is a space
abbrev pub is_space : ℕ → Bool
is_space b = b == 32

-- whether a line is a comment, or has nothing but spaces
abbrev pub is_quiet : List ℕ → Bool
is_quiet [] = true
is_quiet (b ∷ bs) = (b == 35) || list_all is_space (b ∷ bs)

-- whether a byte may stand in a line that isn't quiet
abbrev pub is_plain : ℕ → Bool
is_plain b = nat_le 32 b && nat_le b 126

-- whether a line is of plain bytes, and not too long
abbrev pub is_well_spelled : List ℕ → Bool
is_well_spelled line = nat_le (length line) 140000 && list_all is_plain line
