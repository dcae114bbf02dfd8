-- What a run over the totals in a file leaves, from what a run over any disk leaves.
use Rattle.std.proofs.Common.{List, ap, inr, length, subst, sym, ℕ, ◌≡◌}
use Rattle.pos_disk.specs.declared.device.Disk.{Ghosts as DiskGhosts}
use Rattle.std.specs.Prelude.{Result}
use Rattle.pos_file.specs.declared.block_file.BlockFile.{Ghosts as FileGhosts}
use Rattle.pos_file.specs.declared.file_disk.FileDisk.{FileDisk}
use Rattle.pos_mirror.specs.Mirror.{Mirror, mirror_state}
use Rattle.pos_profile.specs.Entries.{Contents}
use Rattle.pos_program.specs.MirroredFiles.{CutMayLeave, IsMirrored}
use Rattle.pos_program.specs.TotalsDisks.{IsNewMirror}
use Rattle.pos_run.specs.Simulations.{RunsSimulated, RunsThroughProfile}
use Rattle.pos_run.specs.Streams.{Streams}
use Rattle.pos_run.specs.declared.scripts.RunFault.{RunFault}
use Rattle.pos_store.specs.Standing.{Standing, LeavesOneOf}
use Rattle.pos_console.specs.TotalsRuns.{RunsOverTotals, TotalsLeave}

-- what was left as it was, and closed then, was closed as it was
pub closed_unchanged : {B : Type 0} (below : FileGhosts B) {totals after : Mirror (FileDisk B)}
    → below.closed after.below.file → after ≡ totals → below.closed totals.below.file
closed_unchanged {B} below closed same = subst (λ (m : Mirror (FileDisk B)). below.closed m.below.file) same closed

module _ {B : Type 0} (below : FileGhosts B) (contents : Contents) (totals : Mirror (FileDisk B))
    (new : IsNewMirror totals) (streams : Streams) (result : Result (Unit {0}) RunFault) (after : Mirror (FileDisk B))
    (mirrored : IsMirrored below.calls after) (cuts : (is : IsMirrored below.calls after) (bytes : List ℕ)
    → CutMayLeave is bytes → (mirror_state after).left_since 0 bytes) where
  -- a new mirror begins time
  begins : (mirror_state totals).moment ≡ 0
  begins = ap (λ (m : Mirror (FileDisk B)). length m.memory.past) new

  over_totals : (left : List Standing)
      → RunsThroughProfile contents left (mirror_state totals) (mirror_state after) streams result
      → RunsOverTotals below contents left totals after streams result
  over_totals left run = record {
    run = run;
    cut = λ is bytes cut. run.any_moment.each bytes
        (subst (λ (t : ℕ). (mirror_state after).left_since t bytes) (sym begins) (cuts is bytes cut));
  }

  pub totals_leave : below.closed after.below.file → (mirrors : DiskGhosts (Mirror (FileDisk B)))
      → RunsSimulated mirrors contents totals streams result after
      → ((left : List Standing) → LeavesOneOf left (mirror_state totals)
      → RunsThroughProfile contents left (mirror_state totals) (mirror_state after) streams result)
      → TotalsLeave below mirrors contents totals streams result
  totals_leave closed mirrors keys runs = inr (
    after,
    record {
      file = mirrored;
      runs = λ left leaves. over_totals left (runs left leaves);
      keys = keys;
      closed = closed;
    },
  )
