-- How the answers of a script differ from those that are wanted (docs/reference/tool.md, "test").
use Rattle.std.specs.Prelude.{ℕ, ◌+◌, ◌++◌, ◌∷◌, List, [], bytes_eq, codes, decimal, if◌then◌else◌}
use Rattle.pos_script.specs.Lines.{is_quiet}
use Rattle.pos_shell.specs.AnswerTexts.{first, others}

-- a line of a script with its place
abbrev pub placed_line : List ℕ → ℕ → List ℕ → List ℕ
placed_line name place line = (name ++ codes ":" ++ decimal place) ++ codes ": " ++ line ++ codes "\n"

-- two answers
abbrev pub both_answers : List ℕ → List ℕ → List ℕ
both_answers wanted found = (codes "  wanted: " ++ wanted ++ codes "\n") ++ codes "  found:  " ++ found ++ codes "\n"

-- how two answers to a line differ, if they do
abbrev pub difference : List ℕ → ℕ → List ℕ → List ℕ → List ℕ → List ℕ
difference name place line wanted found =
    if bytes_eq wanted found then []
    else (placed_line name place line ++ both_answers wanted found)

-- wanted answers that no line is left for
abbrev pub left_over : List ℕ → List (List ℕ) → List ℕ
left_over name [] = []
left_over name (answer ∷ answers) =
    (name ++ codes ": no line is left for: " ++ answer ++ codes "\n") ++ left_over name answers

-- the lines of a script from a number on, at which what was found differs from what is wanted
abbrev pub differences : List ℕ → ℕ → List (List ℕ) → List (List ℕ) → List (List ℕ) → List ℕ
differences name place [] wanted found = left_over name wanted
differences name place (line ∷ lines) wanted found =
    if is_quiet line then differences name (place + 1) lines wanted found
    else (difference name place line (first wanted) (first found)
    ++ differences name (place + 1) lines (others wanted) (others found))
