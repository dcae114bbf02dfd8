-- Lines that are carried out leave what no call of the disk changes.
use Rattle.kijolvar.proofs.Common.{List, ap, ◌∙◌, ◌≡◌, ◌∷◌, []}
use Rattle.std.specs.Prelude.{Err, Ok, Result, ℕ}
use Rattle.pos_disk.specs.declared.device.Disk.{Ghosts as DiskGhosts}
use Rattle.pos_service.specs.declared.peripheral.Peripheral.{Ghosts}
use Rattle.pos_counter.specs.declared.counter.Counter.{Counter}
use Rattle.pos_counter.specs.Counters.{IsRun}
use Rattle.pos_counter.specs.Steps.{Request, Response}
use Rattle.pos_run.specs.LineRuns.{RunsGivenLines}
use Rattle.pos_run.specs.Runs.{Finishes}
use Rattle.pos_run.specs.Transcript.{Session}
use Rattle.pos_streams.specs.Streams.{Given}

module _ {D P : Type 0} (bound : DiskGhosts D) (peripherals : Ghosts P) where
  run_fixed : (old new : Counter D P) (steps : List (Request × Response)) → IsRun bound peripherals old steps new
      → bound.fixed new.totals.disk ≡ bound.fixed old.totals.disk
  run_fixed old new [] same = ap (λ (c : Counter D P). bound.fixed c.totals.disk) same
  run_fixed old new (step ∷ steps) (mid, first, rest) = run_fixed mid new steps rest ∙ first.kept.fixed

  finish_fixed : (old : Counter D P) {new : Counter D P} {session : Session} {lines : List (List ℕ)}
      {before after : Given} {left : Session}
      → Finishes (IsRun bound peripherals) old session lines before after left new
      → bound.fixed new.totals.disk ≡ bound.fixed old.totals.disk
  finish_fixed old {new} done = run_fixed old new done.transcript.steps done.transcript.run

  pub lines_fixed : {E : Type 0} (old new : Counter D P) (session : Session) (lines : List (List ℕ))
      (before after : Given) (result : Result (Unit {0}) E) (left : Session)
      → RunsGivenLines bound peripherals old session lines before after result left new
      → bound.fixed new.totals.disk ≡ bound.fixed old.totals.disk
  lines_fixed old new session lines before after (Ok u) left done = finish_fixed old done
  lines_fixed old new session lines before after (Err fault) left stops =
      run_fixed stops.mid new stops.failed.carried.steps stops.failed.carried.run ∙ finish_fixed old stops.done
