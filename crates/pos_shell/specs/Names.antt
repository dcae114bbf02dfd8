-- The names of the numbers in an answer (docs/reference/tool.md, "run").
use Rattle.std.specs.Prelude.{ℕ, ◌+◌, ◌==◌, ◌++◌, ◌∷◌, ◌&&◌, ◌||◌, Bool, List, [], bytes_eq, codes, decimal, flat_map}
use Rattle.std.specs.Prelude.{if◌then◌else◌, nat_eq}
use Rattle.std.specs.List.{starts_with}
use Rattle.pos_report.specs.declared.codes.Code.{Code}
use Rattle.pos_script.specs.Lines.{words_of}
use Rattle.pos_shell.specs.declared.names.Numbers.{Numbers}
use Rattle.pos_shell.specs.declared.names.Numbers.TheVariants.{Other, Refusal, Status, Error, State, Power}

-- the kind of a word of a refusal, by its place
abbrev pub refusal_kind : ℕ → List ℕ
refusal_kind place =
    if place == 1 then codes "result code" else if place == 2 then codes "extended code" else []

-- the kind of a word of an ErrorEvent, by its place
abbrev pub error_kind : ℕ → List ℕ
error_kind place =
    if place == 2 then codes "result code" else if place == 3 then codes "extended code" else
    if place == 4 then codes "locus of an ErrorEvent" else []

-- the kind of the word at one place
abbrev pub first_kind : ℕ → List ℕ → ℕ → List ℕ
first_kind wanted kind place = if place == wanted then kind else []

-- the kind of code that a word of an answer is, by its place
abbrev pub kind_at : Numbers → ℕ → List ℕ
kind_at Other place = []
kind_at Refusal place = refusal_kind place
kind_at Status place = first_kind 2 (codes "status of a StatusUpdateEvent") place
kind_at Error place = error_kind place
kind_at State place = first_kind 1 (codes "value of State") place
kind_at Power place = first_kind 1 (codes "value of PowerState") place

-- what the number of the property is that a line asks for
abbrev pub value_numbers : List (List ℕ) → Numbers
value_numbers (verb ∷ control ∷ property ∷ words) =
    if bytes_eq verb (codes "get") then (if bytes_eq property (codes "State") then State else
    if bytes_eq property (codes "PowerState") then Power else Other) else Other
value_numbers other = Other

-- what the numbers in the answer to a line are
abbrev pub numbers_of : List ℕ → List ℕ → Numbers
numbers_of line answer =
    if starts_with nat_eq answer (codes "err ") || starts_with nat_eq answer (codes "failed ") then Refusal else
    if starts_with nat_eq answer (codes "event StatusUpdateEvent ") then Status else
    if starts_with nat_eq answer (codes "event ErrorEvent ") then Error else
    if starts_with nat_eq answer (codes "ok ") then value_numbers (words_of line) else Other

-- a word is the number of a code of this kind
abbrev pub is_meant : List ℕ → List ℕ → Code → Bool
is_meant kind word code = bytes_eq kind code.kind.now && bytes_eq word (decimal code.number)

-- the name of a code after a space, if a word is its number
abbrev pub name_of : List ℕ → List ℕ → Code → List ℕ
name_of kind word code = if is_meant kind word code then codes " " ++ code.name.now else []

-- words from a place on, each after a space, and the names of a code after its number
abbrev pub named : List Code → Numbers → ℕ → List (List ℕ) → List ℕ
named known numbers place [] = []
named known numbers place (word ∷ words) =
    (32 ∷ word ++ flat_map (name_of (kind_at numbers place) word) known) ++ named known numbers (place + 1) words
