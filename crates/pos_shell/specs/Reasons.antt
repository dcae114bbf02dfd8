-- Why a line is `bad line` (docs/reference/tool.md, "run").
use Rattle.std.specs.Prelude.{ℕ, ◌∷◌, List, [], bytes_eq, codes, if◌then◌else◌, length, nat_le}
use Rattle.std.specs.List.{list_all}
use Rattle.pos_script.specs.Lines.{is_nothing, is_plain, words_of}
use Rattle.pos_service.specs.Names.{is_device_name}

-- the shape of the lines that begin with a word; nothing if none do
abbrev pub shape : List ℕ → List ℕ
shape verb =
    if bytes_eq verb (codes "new") then codes "new CONTROL CATEGORY" else
    if bytes_eq verb (codes "open") then codes "open CONTROL DEVICE" else
    if bytes_eq verb (codes "close") then codes "close CONTROL" else
    if bytes_eq verb (codes "claim") then codes "claim CONTROL TIMEOUT" else
    if bytes_eq verb (codes "release") then codes "release CONTROL" else
    if bytes_eq verb (codes "set") then codes "set CONTROL PROPERTY VALUE" else
    if bytes_eq verb (codes "get") then codes "get CONTROL PROPERTY" else
    if bytes_eq verb (codes "call") then codes "call CONTROL METHOD, and the method's arguments" else
    if bytes_eq verb (codes "deliver") then codes "deliver CONTROL, or with retry, clear or continue" else
    if bytes_eq verb (codes "input") then codes "input DEVICE, and what happens there" else
    if bytes_eq verb (codes "show") then codes "show DEVICE" else
    if bytes_eq verb (codes "work") then codes "work DEVICE" else
    if bytes_eq verb (codes "attach") then codes "attach DEVICE SPARE" else
    if bytes_eq verb (codes "detach") then codes "detach DEVICE" else []

-- what is wrong with the words after a verb whose lines have this shape
abbrev pub name_reason : List ℕ → List (List ℕ) → List ℕ
name_reason shape [] = shape
name_reason shape (name ∷ words) =
    if is_device_name name then shape else codes "a name has 1 to 16 letters, digits or hyphens"

-- what is wrong with the words of a line
abbrev pub words_reason : List (List ℕ) → List ℕ
words_reason [] = []
words_reason (verb ∷ words) =
    if is_nothing (shape verb) then codes "its first word is none that a line has" else name_reason (shape verb) words

-- what is wrong with a line that is `bad line`
abbrev pub reason : List ℕ → List ℕ
reason line =
    if nat_le (length line) 140000 then
    (if list_all is_plain line then words_reason (words_of line) else codes "it has a byte that ASCII doesn't print")
    else codes "it has more than 140000 bytes"
