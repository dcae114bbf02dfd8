-- What is painted of what people read (docs/reference/tool.md, "test").
use Rattle.std.specs.Prelude.{ℕ, ◌++◌, ◌∷◌, ◌||◌, List, [], codes, if◌then◌else◌, nat_eq}
use Rattle.std.specs.List.{starts_with}
use Rattle.pos_script.specs.Lines.{is_nothing, pieces}

-- what begins green, what begins red, and what ends either
abbrev pub green : List ℕ
green = 27 ∷ codes "[32m"

abbrev pub red : List ℕ
red = 27 ∷ codes "[31m"

abbrev pub plain : List ℕ
plain = 27 ∷ codes "[0m"

-- the colour of a line, by how it begins
abbrev pub colour_of : List ℕ → List ℕ
colour_of line =
    if starts_with nat_eq line (codes "ok ") || starts_with nat_eq line (codes "  wanted: ") then green else
    if starts_with nat_eq line (codes "failed ") || starts_with nat_eq line (codes "  found:  ") then red else []

-- a line in its colour
abbrev pub painted_line : List ℕ → List ℕ
painted_line line = if is_nothing (colour_of line) then line else (colour_of line ++ line ++ plain)

-- lines in their colours, with this before the first and a line feed before each other one
abbrev pub painted_lines : List ℕ → List (List ℕ) → List ℕ
painted_lines before [] = []
painted_lines before (line ∷ lines) = (before ++ painted_line line) ++ painted_lines (codes "\n") lines

-- a text with its lines in their colours
abbrev pub painted : List ℕ → List ℕ
painted text = painted_lines [] (pieces 10 text)
