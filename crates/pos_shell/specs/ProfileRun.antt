-- What a run over a counter of a profile comes to: of scripts, or of what is typed (docs/reference/tool.md, "run").
use Rattle.std.proofs.Common.{inl, inr}
use Rattle.std.specs.Prelude.{◌≡◌, ◌⊎◌, [], List, Option, Some, None, Result, Err, option_map}
use Rattle.std.specs.Borrow.{Bor}
use Rattle.pos_disk.specs.State.{DiskState, LeavesOnly}
use Rattle.pos_disk.specs.declared.device.Disk.{Ghosts as DiskGhosts}
use Rattle.pos_counter.specs.Counters.{IsLeftDuring}
use Rattle.pos_counter.specs.Machine.{Machine}
use Rattle.pos_counter.specs.Steps.{Request, Response, Run}
use Rattle.pos_counter.specs.declared.counter.Counter.{Counter}
use Rattle.pos_profile.specs.Entries.{Contents}
use Rattle.pos_run.specs.LineRuns.{RunsThrough}
use Rattle.pos_run.specs.Simulations.{AreMounted, IsSimulatedCounter, as_it_is, begun_over, wrapped_devices}
use Rattle.pos_run.specs.Spares.{spares_in}
use Rattle.pos_run.specs.Transcript.{Session, begun_session}
use Rattle.pos_run.specs.declared.spares.Spares.{Spares}
use Rattle.pos_run.specs.declared.wrapped.Wrapped.{Wrapped}
use Rattle.pos_store.specs.Standing.{LeavesOneOf, Standing}
use Rattle.pos_shell.specs.Conversation.{AsksNothing, Converses}
use Rattle.pos_shell.specs.Outputs.{Streams}
use Rattle.pos_shell.specs.Scripts.{PrintsScripts}
use Rattle.pos_shell.specs.declared.scripts.Script.{Script}
use Rattle.pos_shell.specs.declared.scripts.ScriptsFault.{ScriptsFault}
use Rattle.pos_shell.specs.declared.scripts.ScriptsFault.TheVariants as fault
use Rattle.pos_shell.specs.declared.answer_texts.AnswerStyle.{AnswerStyle}

-- scripts that were read; none if the lines are typed
abbrev pub Lines : Type 0
Lines = Option (List Script)

abbrev pub lines_in : Option (Bor (List Script)) → Lines
lines_in = option_map (λ scripts. scripts.now)

-- scripts are run and told, and nothing is read; or what is typed is
abbrev pub PrintsLines : AnswerStyle → Lines → Session → List (Request × Response) → Streams → Streams
    → Result (Unit {0}) ScriptsFault → Session → Type 0
PrintsLines style (Some scripts) session steps old new result left = (new.taken ≡ old.taken)
    × PrintsScripts style scripts session steps old.output new.output result left
PrintsLines style None session steps old new result left = Converses style session steps old new result left

-- there was no memory to begin, and no line was run
abbrev pub BeginsNothing : Session → List (Request × Response) → Streams → Streams → Result (Unit {0}) ScriptsFault
    → Session → Type 0
BeginsNothing session steps old new result left =
    AsksNothing session steps left × (result ≡ Err fault.NoMemory) × (new ≡ old)

-- likewise, or the lines were run
abbrev pub PrintsAll : AnswerStyle → Lines → Session → List (Request × Response) → Streams → Streams
    → Result (Unit {0}) ScriptsFault → Session → Type 0
PrintsAll style lines session steps old new result left =
    BeginsNothing session steps old new result left ⊎ PrintsLines style lines session steps old new result left

-- A run of lines over a counter that is simulated for a profile, over a disk. What all lines asked is one run, of
-- which a crash at any moment is in one of its steps. The disk that is left is that counter's.
pub record RunsTold {D : Type 0} (bound : DiskGhosts D) (style : AnswerStyle) (contents : Contents) (lines : Lines)
    (disk : D) (old new : Streams) (result : Result (Unit {0}) ScriptsFault) (after : D) : Type 0 where
  pub counter : Counter D Wrapped
  pub spares : Spares Wrapped
  pub simulated : IsSimulatedCounter wrapped_devices contents disk counter spares
  pub mounted : AreMounted as_it_is contents counter spares
  pub left : Session
  pub end : Counter D Wrapped
  pub steps : List (Request × Response)
  pub told : PrintsAll style lines (begun_session (spares_in wrapped_devices spares)) steps old new result left
  pub through : RunsThrough bound wrapped_devices counter steps end
  pub disk_left : after ≡ end.totals.disk

-- likewise, or there was no memory to make the counter, and the disk is as it was
abbrev pub RunsLines : {D : Type 0} → DiskGhosts D → AnswerStyle → Contents → Lines → D → Streams → Streams
    → Result (Unit {0}) ScriptsFault → D → Type 0
RunsLines bound style contents lines disk old new result after =
    ((result ≡ Err fault.NoMemory) × (new ≡ old) × (after ≡ disk))
    ⊎ RunsTold bound style contents lines disk old new result after

-- the steps that the lines asked
abbrev pub steps_of : {D : Type 0} {bound : DiskGhosts D} {style : AnswerStyle} {contents : Contents} {lines : Lines}
    {disk : D} {old new : Streams} {result : Result (Unit {0}) ScriptsFault} {after : D}
    → RunsLines bound style contents lines disk old new result after → List (Request × Response)
steps_of (inl nothing) = []
steps_of (inr told) = told.steps

-- A run of the machine by these steps, from where it begins for a profile over a disk that may leave these. A crash at
-- any moment leaves what the machine may leave before, in or after one of its steps.
pub record LeavesSteps (contents : Contents) (left : List Standing) (disk after : DiskState)
    (steps : List (Request × Response)) : Type 0 where
  pub end : Machine
  pub run : Run (begun_over contents left disk) steps end
  pub any_moment : LeavesOnly disk after (IsLeftDuring (begun_over contents left disk) steps end run)

-- A run of lines, and what a crash at any moment of it leaves, for all that an honest disk may leave before it.
pub record LeavesLines {D : Type 0} (bound : DiskGhosts D) (style : AnswerStyle) (contents : Contents) (lines : Lines)
    (disk : D) (old new : Streams) (result : Result (Unit {0}) ScriptsFault) (after : D) : Type 0 where
  pub runs : RunsLines bound style contents lines disk old new result after
  pub moments : (left : List Standing) → bound.honest disk → LeavesOneOf left (bound.state disk)
      → LeavesSteps contents left (bound.state disk) (bound.state after) (steps_of runs)
