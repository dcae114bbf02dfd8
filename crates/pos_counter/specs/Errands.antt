-- A counter after an errand that its disk keeps for the owner was taken.
use Rattle.std.specs.Prelude.{◌≡◌, ℕ, List}
use Rattle.pos_dir.specs.declared.file.File.{File as PlainFile}
use Rattle.pos_disk.specs.Keeps.{KeepsState}
use Rattle.pos_disk.specs.declared.device.Disk.{Ghosts as DiskGhosts}
use Rattle.pos_image.specs.declared.layout.Layout.{Layout}
use Rattle.pos_service.specs.declared.peripheral.Peripheral.{Ghosts}
use Rattle.pos_counter.specs.declared.counter.Counter.{Counter}
use Rattle.pos_counter.specs.Crashes.{HasRun, history_until, machine_now}
use Rattle.pos_counter.specs.Steps.{Request, Response}

-- the counter over another disk
abbrev pub over_disk : {D P : Type 0} → Counter D P → D → Counter D P
over_disk counter disk = record counter { totals = record counter.totals { disk = disk } }

-- The counter is the same but for its disk, and all that is known of the disk is as it was.
pub record IsSameCounter {D P : Type 0} (bound : DiskGhosts D) (old new : Counter D P) : Type 0 where
  pub same : new ≡ over_disk old new.totals.disk
  pub disk : KeepsState bound old.totals.disk new.totals.disk

-- It has run through the same steps, with the same history, and stands for the same machine.
pub record HasRunSame {D P : Type 0} (bound : DiskGhosts D) (peripherals : Ghosts P)
    (layout : Layout) (start : List PlainFile) (sequence : ℕ) (steps : List (Request × Response)) (old : Counter D P)
    (past : HasRun bound peripherals layout start sequence steps old) (new : Counter D P) : Type 0 where
  pub now : HasRun bound peripherals layout start sequence steps new
  pub machine : machine_now now ≡ machine_now past
  pub history : history_until now ≡ history_until past
