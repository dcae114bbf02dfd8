-- What a crash leaves of the disk of a counter that has carried out requests since it began.
use Rattle.std.specs.Prelude.{◌≡◌, ◌++◌, ℕ, List, [], ◌∷◌}
use Rattle.pos_dir.specs.declared.file.File.{File as PlainFile}
use Rattle.pos_disk.specs.State.{IsAtRest, MayLeave}
use Rattle.pos_disk.specs.declared.device.Disk.{Ghosts as DiskGhosts}
use Rattle.pos_image.specs.declared.layout.Layout.{Layout}
use Rattle.pos_profile.specs.declared.entry.Entry.{Entry}
use Rattle.pos_service.specs.declared.peripheral.Peripheral.{Ghosts}
use Rattle.pos_store.specs.Standing.{Standing, Stands, StandsFor}
use Rattle.pos_counter.specs.Counters.{machine, Begins, IsRun}
use Rattle.pos_counter.specs.declared.counter.Counter.{Counter}
use Rattle.pos_counter.specs.History.{History, begun, history_of, history_with}
use Rattle.pos_counter.specs.Machine.{Machine}
use Rattle.pos_counter.specs.Leaving.{part_of, Leaves}
use Rattle.pos_counter.specs.Prefixes.{IsPrefixInside, IsPrefixOf, StandsForSome}
use Rattle.pos_counter.specs.Steps.{Request, Response, Step, Run}

-- A counter as it begins over a disk that is honest, at rest, and stands for these files by a layout, with a sequence.
pub record BeginsOver {D P : Type 0} (bound : DiskGhosts D) (peripherals : Ghosts P)
    (layout : Layout) (start : List PlainFile) (sequence : ℕ) (counter : Counter D P) : Type 0 where
  pub entries : List Entry
  pub disk : D
  pub begins : Begins peripherals entries disk counter
  pub honest : bound.honest disk
  pub at_rest : IsAtRest (bound.state disk)
  pub stands : StandsFor (Stands layout start sequence) (bound.state disk).reading

-- A counter has run through these steps since it began over such a disk, and its disk may stand for these after a
-- crash now.
pub record HasRun {D P : Type 0} (bound : DiskGhosts D) (peripherals : Ghosts P)
    (layout : Layout) (start : List PlainFile) (sequence : ℕ) (steps : List (Request × Response))
    (counter : Counter D P) : Type 0 where
  pub first : Counter D P
  pub begins : BeginsOver bound peripherals layout start sequence first
  pub left : List Standing
  pub leaves : Leaves bound counter.totals left
  pub run : Run (machine peripherals first (part_of bound first.totals (Stands layout start sequence ∷ []))) steps
      (machine peripherals counter (part_of bound counter.totals left))

-- the machine that it stands for now
abbrev pub machine_now : {D P : Type 0} {bound : DiskGhosts D} {peripherals : Ghosts P}
    {layout : Layout} {start : List PlainFile} {sequence : ℕ} {steps : List (Request × Response)}
    {counter : Counter D P}
    → HasRun bound peripherals layout start sequence steps counter → Machine
machine_now {bound = bound} {peripherals = peripherals} {counter = counter} past =
    machine peripherals counter (part_of bound counter.totals past.left)

-- the history of what it has run through
abbrev pub history_until : {D P : Type 0} {bound : DiskGhosts D}
    {peripherals : Ghosts P} {layout : Layout} {start : List PlainFile} {sequence : ℕ}
    {steps : List (Request × Response)} {counter : Counter D P}
    → HasRun bound peripherals layout start sequence steps counter → History
history_until {bound = b} {peripherals = p} {layout = layout} {start = start} {sequence = q} {steps = steps} past =
    let first = machine p past.first (part_of b past.first.totals (Stands layout start q ∷ [])) in
    history_of layout start first steps (machine_now past) past.run

-- A counter that has run through nothing, with the history at the start.
pub record HasBegun {D P : Type 0} (bound : DiskGhosts D) (peripherals : Ghosts P)
    (layout : Layout) (start : List PlainFile) (sequence : ℕ) (counter : Counter D P) : Type 0 where
  pub past : HasRun bound peripherals layout start sequence [] counter
  pub history : history_until past ≡ begun layout start

-- What a crash leaves in one more request, whose step the history goes on by. At any moment of it: the files after a
-- prefix of the history before it or after it, which holds each group that was settled before it. After it: those
-- after a prefix that holds each settled group.
pub record KeepsPrefix {D P : Type 0} (bound : DiskGhosts D) (peripherals : Ghosts P)
    (layout : Layout) (start : List PlainFile) (sequence : ℕ) (steps : List (Request × Response)) (old : Counter D P)
    (past : HasRun bound peripherals layout start sequence steps old) (request : Request) (response : Response)
    (new : Counter D P)
    : Type 0 where
  pub next : HasRun bound peripherals layout start sequence (steps ++ (request, response) ∷ []) new
  pub step : Step (machine_now past) request response (machine_now next)
  pub history : history_until next
      ≡ history_with (history_until past) (machine_now past) request response (machine_now next)
  pub any_moment : (bytes : List ℕ)
      → (bound.state new.totals.disk).left_since (bound.state old.totals.disk).moment bytes
      → StandsForSome (IsPrefixInside (history_until past) (history_until next)) bytes
  pub now : (bytes : List ℕ) → MayLeave (bound.state new.totals.disk) bytes
      → StandsForSome (IsPrefixOf (history_until next)) bytes

-- the same of each request of a list, one after another
abbrev pub KeepsPrefixes : {D P : Type 0} (bound : DiskGhosts D) (peripherals : Ghosts P)
    (layout : Layout) (start : List PlainFile) (sequence : ℕ) (steps : List (Request × Response)) (old : Counter D P)
    → HasRun bound peripherals layout start sequence steps old → (more : List (Request × Response)) (new : Counter D P)
    → IsRun bound peripherals old more new → Type 0
KeepsPrefixes bound peripherals layout start sequence steps old past [] new run = Unit {0}
KeepsPrefixes bound peripherals layout start sequence steps old past (step ∷ more) new run =
    (one : KeepsPrefix bound peripherals layout start sequence steps old past step.0 step.1 run.0)
    × KeepsPrefixes bound peripherals layout start sequence (steps ++ (step.0, step.1) ∷ []) run.0 one.next more new
    run.2
