-- What running scripts and telling their answers comes to (docs/reference/tool.md, "run").
use Rattle.std.specs.Prelude.{◌≡◌, ◌⊎◌, ◌++◌, ◌∷◌, [], ℕ, List, Result, Ok, Err, flat_map, map}
use Rattle.pos_streams.specs.Streams.{Appends}
use Rattle.pos_counter.specs.Steps.{Request, Response}
use Rattle.pos_run.specs.Transcript.{LinesPrint, Session}
use Rattle.pos_script.specs.Lines.{lines_of}
use Rattle.pos_shell.specs.Outputs.{IsCutOff, IsWritten, Output}
use Rattle.pos_shell.specs.AnswerTexts.{told}
use Rattle.pos_shell.specs.declared.scripts.Script.{Script}
use Rattle.pos_shell.specs.declared.scripts.ScriptsFault.{ScriptsFault}
use Rattle.pos_shell.specs.declared.scripts.ScriptsFault.TheVariants as fault
use Rattle.pos_shell.specs.declared.answer_texts.AnswerStyle.{AnswerStyle}

-- A script that was run: its name, its text, and the text of its answers.
pub record Turn : Type 0 where
  pub name : List ℕ
  pub script : List ℕ
  pub answers : List ℕ

-- the lines of a script that was run
abbrev pub turn_lines : Turn → List (List ℕ)
turn_lines turn = lines_of turn.script

-- what is told of it
abbrev pub turn_text : AnswerStyle → Turn → List ℕ
turn_text style turn = told style turn.name 1 (lines_of turn.script) (lines_of turn.answers)

-- the name and the text of a script
abbrev pub script_of : Script → List ℕ × List ℕ
script_of script = (script.name.now, script.text.items)

-- the name and the text of one that was run
abbrev pub script_run : Turn → List ℕ × List ℕ
script_run turn = (turn.name, turn.script)

-- these scripts were run
abbrev pub AreTurns : List Script → List Turn → Type 0
AreTurns scripts turns = map script_run turns ≡ map script_of scripts

-- Of some lines a front was run, each line once and in order, from one session to another. These steps are all that was
-- asked of the machine: none is of a line in the back.
pub record RunsFront (session : Session) (lines : List (List ℕ)) (steps : List (Request × Response)) (left : Session)
    : Type 0 where
  pub front : List (List ℕ)
  pub back : List (List ℕ)
  pub answers : List ℕ
  pub split : lines ≡ front ++ back
  pub prints : LinesPrint session front steps answers left

-- What running one script and telling its answers comes to, from one session to another, by the steps of the machine
-- that its lines asked: the steps print the answers, and these are told as far as they can be written. If memory ran
-- out, a front of the lines was run, and nothing is told.
abbrev pub PrintsText : AnswerStyle → List ℕ → List ℕ → Session → List (Request × Response) → Output → Output
    → Result (Unit {0}) ScriptsFault → Session → Type 0
PrintsText style name text session steps old new (Ok u) left =
    (answers : List ℕ) × LinesPrint session (lines_of text) steps answers left
    × IsWritten old new (told style name 1 (lines_of text) (lines_of answers))
PrintsText style name text session steps old new (Err fault.Write) left =
    (answers : List ℕ) × LinesPrint session (lines_of text) steps answers left
    × IsCutOff old new (told style name 1 (lines_of text) (lines_of answers))
PrintsText style name text session steps old new (Err fault.NoMemory) left =
    RunsFront session (lines_of text) steps left × (new ≡ old)
PrintsText style name text session steps old new (Err fault.Read) left = ⊥

-- from one session to another, the lines of each turn print its answers, one turn after another
abbrev pub TurnsPrint : Session → List Turn → List (Request × Response) → Session → Type 0
TurnsPrint session [] steps left = (steps ≡ []) × (left ≡ session)
TurnsPrint session (turn ∷ turns) steps left =
    (first : List (Request × Response)) × (more : List (Request × Response)) × (middle : Session)
    × LinesPrint session (turn_lines turn) first turn.answers middle × TurnsPrint middle turns more left
    × (steps ≡ first ++ more)

-- Scripts were run from one session to another, and all that each was answered is told.
pub record PrintsTurns (style : AnswerStyle) (turns : List Turn) (session : Session) (steps : List (Request × Response))
    (old new : Output) (left : Session) : Type 0 where
  pub prints : TurnsPrint session turns steps left
  pub given : Appends old.given new.given (flat_map (turn_text style) turns)
  pub flushed : (new.unflushed ≡ []) ⊎ (new ≡ old)

-- The scripts before one were run and told, and at that one it stopped. No later one was run.
pub record StopsAtScript (style : AnswerStyle) (scripts : List Script) (session : Session)
    (steps : List (Request × Response)) (old new : Output) (why : ScriptsFault) (left : Session) : Type 0 where
  pub earlier : List Script
  pub script : Script
  pub later : List Script
  pub split : scripts ≡ earlier ++ script ∷ later
  pub turns : List Turn
  pub are : AreTurns earlier turns
  pub first_steps : List (Request × Response)
  pub last_steps : List (Request × Response)
  pub steps_are : steps ≡ first_steps ++ last_steps
  pub between : Output
  pub middle : Session
  pub done : PrintsTurns style turns session first_steps old between middle
  pub stopped : PrintsText style script.name.now script.text.items middle last_steps between new (Err why) left

-- what running scripts in order and telling their answers comes to
abbrev pub PrintsScripts : AnswerStyle → List Script → Session → List (Request × Response) → Output → Output
    → Result (Unit {0}) ScriptsFault → Session → Type 0
PrintsScripts style scripts session steps old new (Ok u) left =
    (turns : List Turn) × AreTurns scripts turns × PrintsTurns style turns session steps old new left
PrintsScripts style scripts session steps old new (Err why) left =
    StopsAtScript style scripts session steps old new why left
