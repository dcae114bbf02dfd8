-- What carries out the lines of a script, as contracts see it (docs/reference/console.md, "Answers").
use Rattle.std.specs.Prelude.{◌≡◌}
use Rattle.pos_counter.specs.Counters.{IsCounterSound}
use Rattle.pos_service.specs.declared.peripheral.Peripheral.{Ghosts}
use Rattle.pos_run.specs.LineRuns.{session_of}
use Rattle.pos_run.specs.Spares.{AreSparesSound}
use Rattle.pos_run.specs.Transcript.{Session}
use Rattle.pos_run.specs.declared.session.Session.{Session as Running}

-- the names of its controls and its spares
abbrev pub session_in : {D P : Type 0} → Ghosts P → Running D P → Session
session_in peripherals session = session_of peripherals session.names.now session.spares.now

-- What is true of it between two lines: its counter and its spares are sound.
pub record IsSessionSound {D P : Type 0} (peripherals : Ghosts P) (session : Running D P) : Type 0 where
  pub counter : IsCounterSound peripherals session.counter.now
  pub spares : AreSparesSound peripherals session.spares.now

-- It is still sound, and has the very counter, names and spares that it had, as they are now.
pub record KeepsSession {D P : Type 0} (peripherals : Ghosts P) (old new : Running D P) : Type 0 where
  pub sound : IsSessionSound peripherals new
  pub counter : new.counter.ghost_name ≡ old.counter.ghost_name
  pub names : new.names.ghost_name ≡ old.names.ghost_name
  pub spares : new.spares.ghost_name ≡ old.spares.ghost_name
