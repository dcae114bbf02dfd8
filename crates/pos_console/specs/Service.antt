-- What the program does with a script (docs/reference/console.md, "The program").
use Rattle.std.specs.Prelude.{◌∷◌, ◌⊎◌, [], false, length, List, None, Some, Result, codes, ⊤}
use Rattle.pos_counter.specs.Machine.{Device, Machine}
use Rattle.pos_disk.specs.Memory.{Memory, MemoryReads, MemorySyncs, MemoryWrites, state_of}
use Rattle.pos_disk.specs.declared.device.Disk.{Ghosts as DiskGhosts}
use Rattle.pos_sims.specs.Drawers.{drawer_state}
use Rattle.pos_sims.specs.ScreenDisplays.{display_state}
use Rattle.pos_sims.specs.ReceiptPrinters.{printer_state}
use Rattle.pos_sims.specs.Scanners.{scanner_state}
use Rattle.pos_image.specs.Standing.{HasNoFiles}
use Rattle.pos_image.specs.declared.layout.Layout.TheVariants.{Layout1}
use Rattle.pos_profile.specs.Built.{built}
use Rattle.pos_service.specs.declared.kind.Kind.TheVariants as kind
use Rattle.pos_service.specs.Displays.{blank_display}
use Rattle.pos_service.specs.Receipts.{empty_roll}
use Rattle.pos_store.specs.Standing.{Stands}
use Rattle.pos_counter.specs.Steps.{Run}
use Rattle.pos_run.specs.declared.scripts.RunFault.{RunFault}
use Rattle.pos_run.specs.Spares.{SpareStates}
use Rattle.pos_run.specs.Streams.{Streams}
use Rattle.pos_run.specs.Transcript.{Session, begun_session}
use Rattle.pos_run.specs.Runs.{RunsScript, begun_with, device_with, new_totals}
use Rattle.pos_run.specs.Simulations.{FindsNoMemory, RunsSimulated}

-- the devices of the built-in profile, served by the program's peripherals: a closed drawer, a scanner, a blank display
-- of 2 rows of 4 columns, and a printer of 8 characters a line with 5 lines of paper, which are near their end at 2
abbrev pub start_devices : List Device
start_devices =
    device_with (codes "d1") kind.Drawer (Some (drawer_state false false))
    ∷ device_with (codes "s1") kind.Scanner (Some (scanner_state false 0))
    ∷ device_with (codes "p1") (kind.Display 2 4) (Some (display_state (blank_display 2 4) false))
    ∷ device_with (codes "r1") (kind.Printer 8 2) (Some (printer_state (empty_roll 8 5) 2 false)) ∷ []

-- the program's spares in service: a closed drawer
abbrev pub start_spares : SpareStates
start_spares = Some (drawer_state false false) ∷ []

-- the machine as the program begins: no control, no claim, its devices, and the totals t1, which are off over a disk
-- that was formatted
abbrev pub start : Machine
start = begun_with start_devices (Some (codes "t1")) (new_totals (Stands Layout1 [] 1 ∷ []) 0)

-- what contracts see of a disk in memory
abbrev pub in_memory : DiskGhosts Memory
in_memory = record {
  size = λ m. length m.present.reading;
  fixed = λ _. None;
  honest = λ m. ⊤;
  state = λ m. state_of m;
  own_read = MemoryReads;
  own_write = MemoryWrites;
  own_sync = MemorySyncs;
}

-- A script was run over the devices of the built-in profile, in the wrappers that its keys ask for, and a disk in
-- memory that was formatted.
pub record RunsBuilt (streams : Streams) (result : Result (Unit {0}) RunFault) : Type 0 where
  pub disk : Memory
  pub after : Memory
  pub empty : HasNoFiles (state_of disk)
  pub runs : RunsSimulated in_memory built disk streams result after

-- What the program without words does with a script: a run from where it begins, over what is built in; or there was no
-- memory.
pub record Serves (streams : Streams) (result : Result (Unit {0}) RunFault) : Type 0 where
  pub keys : FindsNoMemory streams result ⊎ RunsBuilt streams result
  pub end : Machine
  pub left : Session
  pub run : RunsScript Run start (begun_session start_spares) streams result left end
