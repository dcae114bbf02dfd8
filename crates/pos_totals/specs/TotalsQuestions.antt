-- Questions about the files: find, findByIndex, read (chapter Hard Totals).
use Rattle.std.specs.Prelude.{◌≡◌, ℕ, ℤ, pos, nat_abs, Bool, true, false, not, List, [], ◌∷◌, length, take, drop}
use Rattle.std.specs.Prelude.{Option, Some, None, is_none, Result, MatchResult}
use Rattle.std.specs.List.{find}
use Rattle.pos_service.specs.declared.answer.Answer.{Answer}
use Rattle.pos_service.specs.declared.answer.Answer.TheVariants as answer
use Rattle.pos_service.specs.declared.answer.Value.{Value}
use Rattle.pos_service.specs.declared.answer.Value.TheVariants as value
use Rattle.pos_service.specs.declared.call.Call.{Call}
use Rattle.pos_service.specs.declared.call.Call.TheVariants as call
use Rattle.pos_service.specs.declared.code.Code.TheVariants as code
use Rattle.pos_service.specs.declared.faults.NoMemory.{NoMemory}
use Rattle.pos_service.specs.Refusals.{Row, when, first_refusal, Decided}
use Rattle.pos_totals.specs.HardTotals.{File, Totals, files_of}
use Rattle.pos_totals.specs.declared.questions.Question.{Question as Asked}
use Rattle.pos_totals.specs.declared.questions.Question.TheVariants as asked
use Rattle.pos_totals.specs.TotalsFiles.{is_named, is_called, file_at, has_file, is_foreign_file, is_range_of}
use Rattle.pos_totals.specs.TotalsRows.{while_ready, when_foreign_area}

-- a question about the files, as a call asks it: find, findByIndex, read
pub data Question : Type 0 where
  Find : (name : List ℕ) → Question
  FindByIndex : (index : ℤ) → Question
  Read : (handle offset count : ℤ) → Question

-- the question that is asked
abbrev pub question_of : Asked → Question
question_of (asked.Find name) = Find name.now
question_of (asked.FindByIndex index) = FindByIndex index
question_of (asked.Read handle offset count) = Read handle offset count

-- the question that a call asks, if it asks one
abbrev pub question_asked : Call → Option Question
question_asked (call.Find name) = Some (Find name)
question_asked (call.FindByIndex index) = Some (FindByIndex index)
question_asked (call.Read handle offset count) = Some (Read handle offset count)
question_asked other = None

-- the answer to a question takes memory: a name, or bytes
abbrev pub is_told_in_memory : Question → Bool
is_told_in_memory (Find name) = false
is_told_in_memory (FindByIndex index) = true
is_told_in_memory (Read handle offset count) = true

-- The refusals of each question, in their order.
abbrev pub question_rows : List File → ℕ → Question → List Row
question_rows files control (Find name) = when (not (has_file (is_named name) files)) code.NoExist ∷ []
question_rows files control (FindByIndex index) = when (is_none (file_at files index)) code.Illegal ∷ []
question_rows files control (Read handle offset count) =
    when (not (is_range_of (find (is_called handle) files) offset count)) code.Illegal
    ∷ when (is_foreign_file control (find (is_called handle) files)) code.Claimed
    ∷ []

abbrev pub refusals_of_question : Totals → ℕ → Question → List Row
refusals_of_question totals control question =
    when_foreign_area totals control ∷ while_ready totals.mode (λ files. question_rows files control question)

-- the value that a question gets of a file, if there is the file
abbrev pub told : Option File → (File → Value) → Value
told None tell = value.Empty
told (Some file) tell = tell file

-- What each question is answered: handle and size, the name, the bytes.
abbrev pub told_of : List File → Question → Value
told_of files (Find name) =
    told (find (is_named name) files) (λ file. value.Pair (pos file.handle) (pos (length file.bytes)))
told_of files (FindByIndex index) = told (file_at files index) (λ file. value.Bytes file.name)
told_of files (Read handle offset count) =
    told (find (is_called handle) files) (λ file. value.Bytes (take (nat_abs count) (drop (nat_abs offset) file.bytes)))

-- A question is answered by its table, and then by its value. Nothing changes.
abbrev pub Reports : Totals → ℕ → Question → Answer → Type 0
Reports totals control question result =
    Decided (refusals_of_question totals control question) result (Unit {0})
    (result ≡ answer.Done (told_of (files_of totals.mode) question))

-- The same if memory may run out: only for a question whose answer takes memory, and only after the table.
abbrev pub MayTell : Totals → ℕ → Question → Result Answer NoMemory → Type 0
MayTell totals control question outcome =
    MatchResult outcome (λ result. Reports totals control question result)
    (λ want. (is_told_in_memory question ≡ true)
    × (first_refusal (refusals_of_question totals control question) ≡ None))
