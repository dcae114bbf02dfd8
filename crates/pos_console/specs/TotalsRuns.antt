-- What a run over a profile and the totals in a file leaves (docs/reference/console.md, "The program").
use Rattle.std.specs.Prelude.{◌⊎◌, ℕ, List, Result}
use Rattle.pos_counter.specs.Counters.{IsLeftDuring}
use Rattle.pos_disk.specs.declared.device.Disk.{Ghosts as DiskGhosts}
use Rattle.pos_file.specs.declared.block_file.BlockFile.{Ghosts as FileGhosts}
use Rattle.pos_file.specs.declared.file_disk.FileDisk.{FileDisk}
use Rattle.pos_mirror.specs.Mirror.{Mirror, mirror_state}
use Rattle.pos_profile.specs.Entries.{Contents}
use Rattle.pos_program.specs.MirroredFiles.{CutMayLeave, IsMirrored}
use Rattle.pos_run.specs.Runs.{script_steps}
use Rattle.pos_run.specs.Simulations.{FindsNoMemory, RunsSimulated, RunsThroughProfile, begun_over}
use Rattle.pos_run.specs.Streams.{Streams}
use Rattle.pos_run.specs.declared.scripts.RunFault.{RunFault}
use Rattle.pos_store.specs.Standing.{Standing, LeavesOneOf}

-- A run of the machine, with this text, over totals that may be these. A power cut at any moment since the file was
-- read leaves, of a file that keeps the crash model, what the machine may leave before, in or after one of its steps.
pub record RunsOverTotals {B : Type 0} (below : FileGhosts B) (contents : Contents) (left : List Standing)
    (totals after : Mirror (FileDisk B)) (streams : Streams) (result : Result (Unit {0}) RunFault) : Type 0 where
  pub run : RunsThroughProfile contents left (mirror_state totals) (mirror_state after) streams result
  pub cut : (is : IsMirrored below.calls after) (bytes : List ℕ) → CutMayLeave is bytes
      → IsLeftDuring (begun_over contents left (mirror_state totals)) (script_steps run.text.run) run.end run.run bytes

-- A run over totals in a file. The calls of the file make the totals that are left, and for all that the file may have
-- held the run is one of the machine. The devices and the spares are in the wrappers that the profile's keys ask for.
pub record TotalsRun {B : Type 0} (below : FileGhosts B) (mirrors : DiskGhosts (Mirror (FileDisk B)))
    (contents : Contents) (totals after : Mirror (FileDisk B)) (streams : Streams) (result : Result (Unit {0}) RunFault)
    : Type 0 where
  pub file : IsMirrored below.calls after
  pub runs : (left : List Standing) → LeavesOneOf left (mirror_state totals)
      → RunsOverTotals below contents left totals after streams result
  pub keys : RunsSimulated mirrors contents totals streams result after
  -- and then the file was closed
  pub closed : below.closed after.below.file

-- there was no memory, nothing was read or written, and the file was closed as it was; or it is such a run
abbrev pub TotalsLeave : {B : Type 0} → FileGhosts B → DiskGhosts (Mirror (FileDisk B)) → Contents
    → Mirror (FileDisk B) → Streams → Result (Unit {0}) RunFault → Type 0
TotalsLeave {B} below mirrors contents totals streams result =
    (FindsNoMemory streams result × below.closed totals.below.file)
    ⊎ ((after : Mirror (FileDisk B)) × TotalsRun below mirrors contents totals after streams result)
