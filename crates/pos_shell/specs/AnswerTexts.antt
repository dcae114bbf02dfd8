-- What is told of a script's lines and their answers (docs/reference/tool.md, "run").
use Rattle.std.specs.Prelude.{ℕ, ◌+◌, ◌++◌, ◌∷◌, Bool, false, List, [], bytes_eq, codes, decimal, if◌then◌else◌}
use Rattle.std.specs.Str.{is_utf8}
use Rattle.serde_json.specs.Data.{Data, null, number, unsigned, string, object, member, no_members}
use Rattle.serde_json.specs.Written.{compact_text}
use Rattle.pos_script.specs.Lines.{is_quiet, pieces, words_of}
use Rattle.pos_shell.specs.Names.{named, numbers_of}
use Rattle.pos_shell.specs.Reasons.{reason}
use Rattle.pos_shell.specs.declared.answer_texts.AnswerFormat.{AnswerFormat}
use Rattle.pos_shell.specs.declared.answer_texts.AnswerFormat.TheVariants.{Typed, Numbered, Json}
use Rattle.pos_shell.specs.declared.answer_texts.AnswerStyle.{AnswerStyle}

-- the only one of some words is this one
abbrev pub is_command : List ℕ → List (List ℕ) → Bool
is_command word (only ∷ []) = bytes_eq only word
is_command word words = false

-- a text, if it is UTF-8
abbrev pub text_data : List ℕ → Data
text_data text = if is_utf8 text then string text else null

-- why a line is `bad line`, if that is its answer
abbrev pub reason_data : List ℕ → List ℕ → Data
reason_data line answer = if bytes_eq answer (codes "bad line") then string (reason line) else null

-- a line of a script, with its number and its answer
abbrev pub told_data : List ℕ → ℕ → List ℕ → List ℕ → Data
told_data name place line answer = object (member (codes "answer") (text_data answer)
    (member (codes "line") (number (unsigned place))
    (member (codes "reason") (reason_data line answer)
    (member (codes "script") (string name)
    (member (codes "text") (text_data line) no_members)))))

-- as a line of JSON
abbrev pub told_json : List ℕ → ℕ → List ℕ → List ℕ → List ℕ
told_json name place line answer = compact_text (told_data name place line answer) ++ 10 ∷ []

-- what is before an answer: the script's name and the line's number, but for one that was just typed
abbrev pub prefix : AnswerFormat → List ℕ → ℕ → List ℕ
prefix Typed name place = codes "=>"
prefix other name place = name ++ (58 ∷ decimal place ++ 58 ∷ [])

-- why a line is `bad line`, if that is its answer
abbrev pub reason_text : List ℕ → List ℕ → List ℕ
reason_text line answer = if bytes_eq answer (codes "bad line") then codes ": " ++ reason line else []

-- the answer to a line, as a person reads it: its numbers with their names, and why it is `bad line`
abbrev pub told_plain : AnswerStyle → List ℕ → ℕ → List ℕ → List ℕ → List ℕ
told_plain style name place line answer = prefix style.form name place
    ++ named style.codes.now (numbers_of line answer) 0 (pieces 32 answer) ++ reason_text line answer ++ 10 ∷ []

-- the answer to a line that was just typed: one that is `help` has the help
abbrev pub told_typed : AnswerStyle → List ℕ → ℕ → List ℕ → List ℕ → List ℕ
told_typed style name place line answer =
    if is_command (codes "help") (words_of line) then style.help.now else told_plain style name place line answer

-- the answer to a line, in a form
abbrev pub told_as : AnswerFormat → AnswerStyle → List ℕ → ℕ → List ℕ → List ℕ → List ℕ
told_as Json style name place line answer = told_json name place line answer
told_as Typed style name place line answer = told_typed style name place line answer
told_as Numbered style name place line answer = told_plain style name place line answer

abbrev pub told_line : AnswerStyle → List ℕ → ℕ → List ℕ → List ℕ → List ℕ
told_line style name place line answer = told_as style.form style name place line answer

-- the first of some answers; none is told as an empty one
abbrev pub first : List (List ℕ) → List ℕ
first [] = []
first (answer ∷ answers) = answer

-- the answers after the first
abbrev pub others : List (List ℕ) → List (List ℕ)
others [] = []
others (answer ∷ answers) = answers

-- the lines of a script from a number on: each that isn't quiet has the next answer
abbrev pub told : AnswerStyle → List ℕ → ℕ → List (List ℕ) → List (List ℕ) → List ℕ
told style name place [] answers = []
told style name place (line ∷ lines) answers =
    if is_quiet line then told style name (place + 1) lines answers
    else (told_line style name place line (first answers) ++ told style name (place + 1) lines (others answers))
