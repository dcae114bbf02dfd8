-- Lines that wait for what a host reports.
use Rattle.std.specs.Prelude.{◌≡◌, ◌≢◌, ◌++◌, ◌∷◌, [], ℕ, Bool, true, false, List, Result, Ok, Err, codes}
use Rattle.std.specs.Prelude.{if◌then◌else◌, nat_lt, take, ◌<◌, ◌≤◌, ◌⊎◌, length}
use Rattle.std.specs.declared.vec.Vec.{Vec}
use Rattle.pos_counter.specs.Counters.{RunsFrom}
use Rattle.pos_counter.specs.HostTallies.{LeavesHostAlone}
use Rattle.pos_counter.specs.Hosts.{progress_in}
use Rattle.pos_counter.specs.Leaving.{Leaves}
use Rattle.pos_counter.specs.Steps.{Request, Response}
use Rattle.pos_counter.specs.declared.counter.Counter.{Counter}
use Rattle.pos_counter.specs.declared.host_tally.HostTally.{HostTally}
use Rattle.pos_disk.specs.Keeps.{KeepsDisk}
use Rattle.pos_disk.specs.declared.device.Disk.{Ghosts as DiskGhosts}
use Rattle.pos_drive.specs.declared.courses.Course.{Course}
use Rattle.pos_drive.specs.declared.courses.Progress.{Progress}
use Rattle.pos_drive.specs.declared.courses.Progress.TheVariants as progress
use Rattle.pos_script.specs.Lines.{lines_of}
use Rattle.pos_script.specs.Writing.{IsCut}
use Rattle.pos_service.specs.declared.peripheral.Peripheral.{Ghosts}
use Rattle.pos_store.specs.Standing.{Standing}
use Rattle.pos_streams.specs.Streams.{Appends, Given, given_with}
use Rattle.pos_streams.specs.Transfers.{given_to}
use Rattle.pos_streams.specs.declared.sink.WriteFault.{WriteFault}
use Rattle.pos_run.specs.Transcript.{LinesPrint, Session}
use Rattle.pos_run.specs.declared.line_texts.LineText.{LineText}
use Rattle.pos_run.specs.declared.waiting_lines.LineProgress.{LineProgress}
use Rattle.pos_run.specs.declared.waiting_lines.LineProgress.TheVariants as held

-- what a line prints: the bytes that are kept first, and what follows them
abbrev pub text_of : LineText → Given
text_of text = if nat_lt text.count 8 then given_with (take text.count text.first) 0
    else given_with (text.first ++ (given_to text.rest).bytes) (given_to text.rest).faults

-- the host has a pending order, or is to get it
abbrev pub is_out : Progress → Bool
is_out progress.Waits = true
is_out progress.HandedOut = true
is_out other = false

-- an order is pending
abbrev pub is_held : Progress → Bool
is_held progress.Reported = true
is_held other = is_out other

-- a line with this text isn't one of a pending order
abbrev pub IsNotHeld : Progress → List ℕ → Type 0
IsNotHeld done text = is_held done ≡ true → text ≢ codes "memory\n"

-- what becomes of a line with this text, by how far the host is with a pending order
abbrev pub HoldsBy : Progress → List ℕ → LineProgress → Type 0
HoldsBy done text held.Printed = IsNotHeld done text
HoldsBy done text held.Waits = (is_out done ≡ true) × (text ≡ codes "memory\n")
HoldsBy done text held.NoMemory = (done ≡ progress.Reported) × (text ≡ codes "memory\n")

-- nothing passed between the counter and its host, and a line with this text isn't one of a pending order
abbrev pub LeavesOrder : (old new : HostTally) → Progress → List ℕ → Type 0
LeavesOrder old new done text = (new ≡ old) × IsNotHeld done text

-- no order is pending; and if a line prints that there was no memory, none was forgotten
abbrev pub LeavesReady : (old new : HostTally) → Progress → List ℕ → Type 0
LeavesReady old new done text = (done ≡ progress.Ready) × (text ≡ codes "memory\n" → new ≡ old)

-- For all that the disk may leave, the machine that a counter stands for, and what the lines have, are as they were: a
-- run of no step. So a crash at any moment leaves what may be left before.
abbrev pub StaysTo : {D P : Type 0} → DiskGhosts D → Ghosts P → Counter D P → Session → Counter D P → Session → Type 0
StaysTo bound peripherals old session new left = (standing : List Standing) → Leaves bound old.totals standing
    → RunsFrom bound peripherals standing old [] new × (left ≡ session)

-- The machine has run by lines, and this is their text, by what the disk may leave before.
pub record RunsLinesFrom {D P : Type 0} (bound : DiskGhosts D) (peripherals : Ghosts P) (standing : List Standing)
    (old : Counter D P) (session : Session) (lines : List (List ℕ)) (text : List ℕ) (new : Counter D P)
    (left : Session) : Type 0 where
  pub steps : List (Request × Response)
  pub ran : RunsFrom bound peripherals standing old steps new
  pub prints : LinesPrint session lines steps text left

-- likewise, for all that the disk may leave
abbrev pub RunsLines : {D P : Type 0} → DiskGhosts D → Ghosts P → Counter D P → Session → List (List ℕ)
    → (text : List ℕ) → Counter D P → Session → Type 0
RunsLines bound peripherals old session lines text new left =
    (standing : List Standing) → Leaves bound old.totals standing
    → RunsLinesFrom bound peripherals standing old session lines text new left

-- memory ran out for a text: eight bytes of it or more were given, but not all, and nothing failed
abbrev pub LacksMemory : Given → Given → List ℕ → Type 0
LacksMemory old new text = (front : List ℕ) × (back : List ℕ) × (text ≡ front ++ back) × (8 ≤ length front)
    × (0 < length back) × Appends old new front

-- The machine has run by lines, and their text was given.
pub record RunsAndWrites {D P : Type 0} (bound : DiskGhosts D) (peripherals : Ghosts P) (old : Counter D P)
    (session : Session)
    (lines : List (List ℕ)) (before after : Given) (new : Counter D P) (left : Session) : Type 0 where
  pub text : List ℕ
  pub runs : RunsLines bound peripherals old session lines text new left
  pub written : Appends before after text
  pub kept : KeepsDisk bound old.totals.disk new.totals.disk
  pub tally : LeavesHostAlone old.tally new.tally

-- The machine has run by a line. Of its text a front was given, but not all, as a write failed or memory ran out.
pub record Cuts {D P : Type 0} (bound : DiskGhosts D) (peripherals : Ghosts P) (old : Counter D P) (session : Session)
    (line : List ℕ) (before after : Given) (new : Counter D P) (left : Session) : Type 0 where
  pub text : List ℕ
  pub runs : RunsLines bound peripherals old session (line ∷ []) text new left
  pub cut : IsCut before after text ⊎ LacksMemory before after text
  pub kept : KeepsDisk bound old.totals.disk new.totals.disk
  pub tally : LeavesHostAlone old.tally new.tally

-- A line is held back: the machine is as it was, nothing was given, and nothing passed between it and its host.
pub record Holds {D P : Type 0} (bound : DiskGhosts D) (peripherals : Ghosts P) (old : Counter D P) (session : Session)
    (before after : Given) (new : Counter D P) (left : Session) : Type 0 where
  pub stays : StaysTo bound peripherals old session new left
  pub nothing : after ≡ before
  pub kept : KeepsDisk bound old.totals.disk new.totals.disk
  pub tally : new.tally ≡ old.tally

-- What a line leaves, by what becomes of it, with this of what passed between the counter and its host, of how far the
-- host is after it, and of its text.
abbrev pub LineLeaves : {D P : Type 0} → DiskGhosts D → Ghosts P → (P → Course)
    → (HostTally → HostTally → Progress → List ℕ → Type 0) → Counter D P → Session → (line : List ℕ)
    → (before after : Given) → Result LineProgress WriteFault → Counter D P → Session → Type 0
LineLeaves bound peripherals course_of Then old session line before after (Ok held.Printed) new left =
    (tells : RunsAndWrites bound peripherals old session (line ∷ []) before after new left)
    × Then old.tally new.tally (progress_in course_of new) tells.text
LineLeaves bound peripherals course_of Then old session line before after (Ok held.Waits) new left =
    Holds bound peripherals old session before after new left × (is_out (progress_in course_of new) ≡ true)
LineLeaves bound peripherals course_of Then old session line before after (Ok held.NoMemory) new left =
    Holds bound peripherals old session before after new left × (progress_in course_of new ≡ progress.Reported)
LineLeaves bound peripherals course_of Then old session line before after (Err fault) new left =
    (cuts : Cuts bound peripherals old session line before after new left)
    × Then old.tally new.tally (progress_in course_of new) cuts.text

-- the lines of texts
abbrev pub lines_in : {A : Type 0} → List (Vec ℕ A) → List (List ℕ)
lines_in [] = []
lines_in (text ∷ texts) = lines_of text.items ++ lines_in texts

-- a text has one line
abbrev pub IsLine : List ℕ → Type 0
IsLine text = (line : List ℕ) × (lines_of text ≡ line ∷ [])

-- likewise, a text in memory
abbrev pub IsOneLine : {A : Type 0} → Vec ℕ A → Type 0
IsOneLine text = IsLine text.items

-- Lines are carried out one after another. After one that prints that there was no memory, no order was forgotten.
abbrev pub CarriesEach : {D P : Type 0} → DiskGhosts D → Ghosts P → Counter D P → Session → (lines : List (List ℕ))
    → (before after : Given) → Counter D P → Session → Type 0
CarriesEach bound peripherals old session [] before after new left =
    (tells : RunsAndWrites bound peripherals old session [] before after new left) × (tells.text ≡ [])
    × (new.tally ≡ old.tally)
CarriesEach {D} {P} bound peripherals old session (line ∷ lines) before after new left =
    (mid : Counter D P) × (between : Session) × (given : Given)
    × (tells : RunsAndWrites bound peripherals old session (line ∷ []) before given mid between)
    × (tells.text ≡ codes "memory\n" → mid.tally ≡ old.tally)
    × CarriesEach bound peripherals mid between lines given after new left

-- From the front on, lines are carried out, and what they print is given, once each. The others are left. A pending
-- order is forgotten only after a line that prints something else than that there was no memory, or where there was no
-- line.
pub record CarriesOn {A D P : Type 0} (bound : DiskGhosts D) (peripherals : Ghosts P) (old : Counter D P)
    (session : Session) (texts left_texts : List (Vec ℕ A)) (before after : Given) (new : Counter D P) (left : Session)
    : Type 0 where
  pub carried : List (List ℕ)
  pub split : lines_in texts ≡ carried ++ lines_in left_texts
  pub tells : RunsAndWrites bound peripherals old session carried before after new left
  pub each : carried ≢ [] → CarriesEach bound peripherals old session carried before after new left
  pub unforgotten : carried ≡ [] → left_texts ≢ [] → new.tally ≡ old.tally

-- From the front on, lines are carried out, and what they print is given, once each. Then one line is carried out, and
-- a front of what it prints is given, but not all. The others are left.
pub record CutsOff {A D P : Type 0} (bound : DiskGhosts D) (peripherals : Ghosts P) (old : Counter D P)
    (session : Session) (texts left_texts : List (Vec ℕ A)) (before after : Given) (new : Counter D P) (left : Session)
    : Type 0 where
  pub carried : List (List ℕ)
  pub line : List ℕ
  pub given : Given
  pub mid : Counter D P
  pub between : Session
  pub split : lines_in texts ≡ carried ++ line ∷ lines_in left_texts
  pub tells : RunsAndWrites bound peripherals old session carried before given mid between
  pub each : CarriesEach bound peripherals old session carried before given mid between
  pub cuts : Cuts bound peripherals mid between line given after new left

-- how lines end: if all were carried out, none is left and no order is pending; else some are left, if there were any,
-- and an order waits or is with the host, or the host has reported
abbrev pub EndsWith : {A : Type 0} → LineProgress → (texts left_texts : List (Vec ℕ A)) → Progress → Type 0
EndsWith held.Printed texts left_texts done = (left_texts ≡ []) × (done ≡ progress.Ready)
EndsWith held.Waits texts left_texts done = (left_texts ≡ [] → texts ≡ []) × (is_out done ≡ true)
EndsWith held.NoMemory texts left_texts done = (left_texts ≢ []) × (done ≡ progress.Reported)

-- No line is carried out, and nothing has changed.
pub record StandsStill {A D P : Type 0} (old : Counter D P) (session : Session) (texts left_texts : List (Vec ℕ A))
    (before after : Given) (kind : LineProgress) (new : Counter D P) (left : Session) : Type 0 where
  pub waits : kind ≡ held.Waits
  pub counter : new ≡ old
  pub session_stays : left ≡ session
  pub all_left : left_texts ≡ texts
  pub nothing : after ≡ before

-- What lines leave, by what becomes of them. While an order waits or the host has it, nothing is carried out.
abbrev pub LinesLeave : {A D P : Type 0} → DiskGhosts D → Ghosts P → (P → Course) → Counter D P → Session
    → (texts left_texts : List (Vec ℕ A)) → (before after : Given) → Result LineProgress WriteFault → Counter D P
    → Session
    → Type 0
LinesLeave bound peripherals course_of old session texts left_texts before after (Ok kind) new left =
    CarriesOn bound peripherals old session texts left_texts before after new left
    × EndsWith kind texts left_texts (progress_in course_of new)
    × (is_out (progress_in course_of old) ≡ true →
    StandsStill old session texts left_texts before after kind new left)
LinesLeave bound peripherals course_of old session texts left_texts before after (Err fault) new left =
    CutsOff bound peripherals old session texts left_texts before after new left
    × (progress_in course_of new ≡ progress.Ready) × (is_out (progress_in course_of old) ≡ false)
