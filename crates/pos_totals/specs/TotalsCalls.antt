-- The calls of Hard Totals, by what they ask of the files (chapter Hard Totals).
use Rattle.std.specs.Prelude.{◌≡◌, ℕ, Bool, true, false, List, [], Option, Some, None, Result, Ok, Err}
use Rattle.pos_disk.specs.declared.device.Disk.{Ghosts}
use Rattle.pos_service.specs.declared.answer.Answer.{Answer}
use Rattle.pos_service.specs.declared.call.Call.{Call}
use Rattle.pos_service.specs.declared.call.Call.TheVariants as call
use Rattle.pos_service.specs.declared.faults.NoMemory.{NoMemory}
use Rattle.pos_service.specs.Refusals.{Row}
use Rattle.pos_totals.specs.HardTotals.{Change, Totals}
use Rattle.pos_totals.specs.TotalsQuestions.{Question, MayTell, question_asked, refusals_of_question}
use Rattle.pos_totals.specs.TotalsChanges.{change_asked, refusals_of_change}
use Rattle.pos_totals.specs.TotalsArrangements.{Arrangement, arrangement_asked, refusals_of_arrangement}
use Rattle.pos_totals.specs.TotalsCommits.{refusals_of_commit}
use Rattle.pos_totals.specs.Changes.{Arranged, Changes, CommitsBuffer}
use Rattle.pos_totals.specs.Views.{TotalsView}

-- a call asks about the files, asks for a change of them, makes an arrangement for its control, or commits what that
-- has buffered; a call of another category asks nothing
pub data FileCall : Type 0 where
  Asks : Question → FileCall
  Makes : Change → FileCall
  Arranges : Arrangement → FileCall
  Commits : FileCall
  Nothing : FileCall

-- the call commits
abbrev pub is_commit : Call → Bool
is_commit call.CommitTrans = true
is_commit asked = false

-- what a call asks, by the question, the change and the arrangement that it may be
abbrev pub read_as : Option Question → Option Change → Option Arrangement → Bool → FileCall
read_as (Some question) change arrangement commits = Asks question
read_as None (Some change) arrangement commits = Makes change
read_as None None (Some arrangement) commits = Arranges arrangement
read_as None None None true = Commits
read_as None None None false = Nothing

-- what each call asks
abbrev pub file_call : Call → FileCall
file_call asked = read_as (question_asked asked) (change_asked asked) (arrangement_asked asked) (is_commit asked)

-- what the totals refuse to the control with a number
abbrev pub file_rows : Totals → ℕ → FileCall → List Row
file_rows totals number (Asks question) = refusals_of_question totals number question
file_rows totals number (Makes change) = refusals_of_change totals number change
file_rows totals number (Arranges arrangement) = refusals_of_arrangement totals number arrangement
file_rows totals number Commits = refusals_of_commit totals number
file_rows totals number Nothing = []

-- What a call of the totals' own does: a question changes nothing; an arrangement takes no memory.
abbrev pub Calls : {D : Type 0} → Ghosts D → TotalsView D → ℕ → FileCall → Result Answer NoMemory → TotalsView D
    → Type 0
Calls bound old control (Asks question) outcome new = MayTell old.totals control question outcome × (new ≡ old)
Calls bound old control (Makes change) outcome new = Changes bound old control change outcome new
Calls bound old control (Arranges arrangement) (Ok result) new = Arranged old control arrangement result new
Calls bound old control (Arranges arrangement) (Err want) new = ⊥
Calls bound old control Commits outcome new = CommitsBuffer bound old control outcome new
Calls bound old control Nothing outcome new = ⊥
