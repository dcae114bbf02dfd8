-- What lines come to that are typed at a terminal (docs/reference/tool.md, "run").
use Rattle.std.specs.Prelude.{◌≡◌, ◌⊎◌, ◌≤◌, ◌++◌, ◌∷◌, [], ℕ, Bool, true, false, IsTrue, List, Result, Ok, Err, codes}
use Rattle.std.specs.Prelude.{flat_map, length, ⊤}
use Rattle.std.specs.List.{list_all}
use Rattle.pos_streams.specs.Streams.{Appends, Taken, end_after, read_fault_after, taken_after}
use Rattle.pos_counter.specs.Steps.{Request, Response}
use Rattle.pos_run.specs.Transcript.{Session}
use Rattle.pos_script.specs.LineBuffers.{is_no_feed}
use Rattle.pos_script.specs.Lines.{lines_of, words_of}
use Rattle.pos_shell.specs.Outputs.{IsCutOff, IsWritten, Output, Streams}
use Rattle.pos_shell.specs.Scripts.{PrintsText, Turn, TurnsPrint, turn_text}
use Rattle.pos_shell.specs.AnswerTexts.{is_command}
use Rattle.pos_shell.specs.declared.conversation.Next.{Next}
use Rattle.pos_shell.specs.declared.conversation.Next.TheVariants.{Asked, Ended, Quit}
use Rattle.pos_shell.specs.declared.conversation.TypedLine.{TypedLine}
use Rattle.pos_shell.specs.declared.scripts.ScriptsFault.{ScriptsFault}
use Rattle.pos_shell.specs.declared.scripts.ScriptsFault.TheVariants as fault
use Rattle.pos_shell.specs.declared.answer_texts.AnswerStyle.{AnswerStyle}

-- what is before each line that is typed
abbrev pub prompt : List ℕ
prompt = codes "> "

-- how many bytes a line has at most, and how many lines are typed
abbrev pub most : ℕ
most = 1073741824

-- what was typed is one line, whose only word is `quit`
abbrev pub is_quit : List (List ℕ) → Bool
is_quit (line ∷ []) = is_command (codes "quit") (words_of line)
is_quit lines = false

-- a line that was typed, and whether a line feed ended it
abbrev pub line_of : Result TypedLine ScriptsFault → Result (List ℕ × Bool) ScriptsFault
line_of (Ok line) = Ok (line.text.items, line.is_ended)
line_of (Err why) = Err why

-- a text without a line feed
abbrev pub HasNoFeed : List ℕ → Type 0
HasNoFeed text = IsTrue (list_all is_no_feed text)

-- a line that a line feed ended
abbrev pub IsEndedLine : List ℕ → Type 0
IsEndedLine text = (line : List ℕ) × HasNoFeed line × (text ≡ line ++ 10 ∷ [])

-- What taking a line comes to: a line feed ended it, or the end was found after it. Or a read failed, or the line was
-- too long. Or there was no memory for one more byte of it, which was taken and is lost.
abbrev pub TakesLine : Taken → Taken → Result (List ℕ × Bool) ScriptsFault → Type 0
TakesLine old new (Ok (text, true)) = IsEndedLine text × (new ≡ taken_after old text)
TakesLine old new (Ok (text, false)) = HasNoFeed text × (new ≡ end_after (taken_after old text))
TakesLine old new (Err fault.Read) = (text : List ℕ) × HasNoFeed text
    × ((new ≡ read_fault_after (taken_after old text)) ⊎ ((new ≡ taken_after old text) × (most ≤ length text)))
TakesLine old new (Err fault.NoMemory) =
    (text : List ℕ) × (byte : ℕ) × HasNoFeed text × (new ≡ taken_after old (text ++ byte ∷ []))
TakesLine old new (Err fault.Write) = ⊥

-- what an exchange gives: the prompt, and then what is told of the line that was typed
abbrev pub exchange_text : AnswerStyle → Turn → List ℕ
exchange_text style turn = prompt ++ turn_text style turn

-- nothing is asked of the machine
abbrev pub AsksNothing : Session → List (Request × Response) → Session → Type 0
AsksNothing session steps left = (steps ≡ []) × (left ≡ session)

-- The prompt was written, then a line was taken, and then it was run and told, or as far as it could be.
pub record AnswersLine (style : AnswerStyle) (session : Session) (steps : List (Request × Response)) (old new : Streams)
    (is_ended : Bool) (result : Result (Unit {0}) ScriptsFault) (left : Session) : Type 0 where
  pub text : List ℕ
  pub between : Output
  pub prompted : IsWritten old.output between prompt
  pub taken : TakesLine old.taken new.taken (Ok (text, is_ended))
  pub goes_on : is_quit (lines_of text) ≡ false
  pub told : PrintsText style [] text session steps between new.output result left

-- The prompt was written, and then the line `quit` was taken.
pub record EndsByQuit (session : Session) (steps : List (Request × Response)) (old new : Streams) (left : Session)
    : Type 0 where
  pub text : List ℕ
  pub is_ended : Bool
  pub prompted : IsWritten old.output new.output prompt
  pub taken : TakesLine old.taken new.taken (Ok (text, is_ended))
  pub quits : is_quit (lines_of text) ≡ true
  pub none : AsksNothing session steps left

-- the prompt couldn't be written, and no line was taken
abbrev pub IsUnprompted : Session → List (Request × Response) → Streams → Streams → ScriptsFault → Session → Type 0
IsUnprompted session steps old new why left = (why ≡ fault.Write) × IsCutOff old.output new.output prompt
    × (new.taken ≡ old.taken) × AsksNothing session steps left

-- the prompt was written, and then no line could be taken
abbrev pub IsUnread : Session → List (Request × Response) → Streams → Streams → ScriptsFault → Session → Type 0
IsUnread session steps old new why left = IsWritten old.output new.output prompt
    × TakesLine old.taken new.taken (Err why) × AsksNothing session steps left

-- what asking for a line, running it and telling its answer comes to
abbrev pub PrintsExchange : AnswerStyle → Session → List (Request × Response) → Streams → Streams
    → Result Next ScriptsFault
    → Session → Type 0
PrintsExchange style session steps old new (Ok Asked) left =
    AnswersLine style session steps old new true (Ok tt) left
PrintsExchange style session steps old new (Ok Ended) left =
    AnswersLine style session steps old new false (Ok tt) left
PrintsExchange style session steps old new (Ok Quit) left = EndsByQuit session steps old new left
PrintsExchange style session steps old new (Err why) left = IsUnprompted session steps old new why left
    ⊎ IsUnread session steps old new why left
    ⊎ ((is_ended : Bool) × AnswersLine style session steps old new is_ended (Err why) left)

-- each of these was a line that a line feed ended
abbrev pub AreEndedLines : List Turn → Type 0
AreEndedLines [] = ⊤
AreEndedLines (turn ∷ turns) = IsEndedLine turn.script × AreEndedLines turns

-- all that was typed
abbrev pub typed : List Turn → List ℕ
typed turns = flat_map (λ turn. turn.script) turns

-- Lines were typed, each was run and told, from one session to another. What was taken is their text, one run of steps
-- prints the answers of each, and what was given is a prompt and what is told of each.
pub record AnswersLines (style : AnswerStyle) (turns : List Turn) (session : Session)
    (steps : List (Request × Response))
    (old new : Streams) (left : Session) : Type 0 where
  pub ended : AreEndedLines turns
  pub taken : new.taken ≡ taken_after old.taken (typed turns)
  pub prints : TurnsPrint session turns steps left
  pub given : Appends old.output.given new.output.given (flat_map (exchange_text style) turns)
  pub flushed : (new.output.unflushed ≡ []) ⊎ (new.output ≡ old.output)

-- The end of what is typed was found, and the line before it, if there was one, was answered. Then the terminal's line
-- is ended, or can't be.
pub record EndsTyped (style : AnswerStyle) (session : Session) (steps : List (Request × Response)) (old new : Streams)
    (Ends : Output → Output → List ℕ → Type 0) (left : Session) : Type 0 where
  pub between : Output
  pub last : AnswersLine style session steps old (record { taken = new.taken; output = between }) false (Ok tt) left
  pub ends : Ends between new.output (codes "\n")

-- how a conversation ends: by the line `quit`, at the end of what is typed, or by a fault
abbrev pub EndsExchanges : AnswerStyle → Session → List (Request × Response) → Streams → Streams
    → Result (Unit {0}) ScriptsFault → Session → Type 0
EndsExchanges style session steps old new (Ok u) left =
    EndsByQuit session steps old new left ⊎ EndsTyped style session steps old new IsWritten left
EndsExchanges style session steps old new (Err why) left = PrintsExchange style session steps old new (Err why) left
    ⊎ ((why ≡ fault.Write) × EndsTyped style session steps old new IsCutOff left)

-- there were as many lines as there may be
abbrev pub IsLongest : List Turn → Session → List (Request × Response) → Streams → Streams
    → Result (Unit {0}) ScriptsFault → Session → Type 0
IsLongest turns session steps old new result left = (most ≤ length turns) × AsksNothing session steps left
    × (new ≡ old) × (result ≡ Err fault.Read)

-- What a conversation comes to, by the steps of the machine that its lines asked, and how it ended.
pub record Converses (style : AnswerStyle) (session : Session) (steps : List (Request × Response)) (old new : Streams)
    (result : Result (Unit {0}) ScriptsFault) (left : Session) : Type 0 where
  pub turns : List Turn
  pub first_steps : List (Request × Response)
  pub last_steps : List (Request × Response)
  pub steps_are : steps ≡ first_steps ++ last_steps
  pub between : Streams
  pub middle : Session
  pub done : AnswersLines style turns session first_steps old between middle
  pub last : EndsExchanges style middle last_steps between new result left
      ⊎ IsLongest turns middle last_steps between new result left
