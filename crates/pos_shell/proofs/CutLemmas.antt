-- What a crash at any moment of a run leaves.
use Rattle.std.proofs.Common.{List, [], ap, arith, inl, length, refl, subst, sym, ◌∙◌, ◌≡◌, ℕ}
use Rattle.pos_counter.specs.Counters.{IsLeftDuring, machine}
use Rattle.pos_counter.specs.Leaving.{Leaves, part_of}
use Rattle.pos_counter.specs.Machine.{Machine}
use Rattle.pos_counter.specs.Steps.{Request, Response, Run}
use Rattle.pos_counter.specs.declared.counter.Counter.{Counter}
use Rattle.pos_disk.specs.State.{DiskState, LeavesOnly, MayLeave}
use Rattle.pos_disk.specs.declared.device.Disk.{Ghosts as DiskGhosts}
use Rattle.pos_file.specs.declared.block_file.BlockFile.{Ghosts as FileGhosts}
use Rattle.pos_file.specs.declared.file_disk.FileDisk.{FileDisk}
use Rattle.pos_mirror.specs.Mirror.{Mirror, mirror_state}
use Rattle.pos_profile.specs.Entries.{Contents}
use Rattle.pos_program.specs.MirroredFiles.{CutMayLeave, IsMirrored}
use Rattle.pos_program.specs.TotalsDisks.{IsNewMirror}
use Rattle.pos_run.proofs.Common.{off_over}
use Rattle.pos_run.specs.LineRuns.{RunsThrough}
use Rattle.pos_run.specs.Simulations.{IsSimulatedCounter, wrapped_devices}
use Rattle.pos_run.specs.declared.spares.Spares.{Spares}
use Rattle.pos_run.specs.declared.wrapped.Wrapped.{Wrapped}
use Rattle.pos_shell.specs.ProfileRun.{LeavesSteps}
use Rattle.pos_shell.specs.Runs.{LeavesCuts}
use Rattle.pos_store.specs.Standing.{LeavesOneOf, Standing}

-- a run from this machine is one from an equal one, with the same moments
moved : {D : Type 0} (state : D → DiskState) {d e : D} {after : DiskState} (end : Machine) {m n : Machine}
    (steps : List (Request × Response)) → d ≡ e → m ≡ n → (run : Run m steps end)
    → LeavesOnly (state d) after (IsLeftDuring m steps end run)
    → (again : Run n steps end) × LeavesOnly (state e) after (IsLeftDuring n steps end again)
moved {D} state {d} {after} end {n} steps here same run any_moment =
    let P : D → Machine → Type 0 =
    λ x y. (r : Run y steps end) × LeavesOnly (state x) after (IsLeftDuring y steps end r) in
    subst (λ x. P x n) here (subst (λ y. P d y) same (run, any_moment))

-- a run over a counter that is simulated for a profile
pub leaves_steps : {D : Type 0} (bound : DiskGhosts D) {contents : Contents} {disk after : D}
    {counter end : Counter D Wrapped} {spares : Spares Wrapped}
    → IsSimulatedCounter wrapped_devices contents disk counter spares → (steps : List (Request × Response))
    → RunsThrough bound wrapped_devices counter steps end → after ≡ end.totals.disk → (left : List Standing)
    → bound.honest disk → LeavesOneOf left (bound.state disk)
    → LeavesSteps contents left (bound.state disk) (bound.state after) steps
leaves_steps {D} bound {contents} {disk} {counter} {end} made steps through ends left honest leaves =
    let holds : Leaves bound (off_over disk) left = record { honest = honest; leaves = leaves; is_settled = refl } in
    let ran = through.1 left (rw made.totals holds) in
    let last = machine wrapped_devices end (part_of bound end.totals ran.after) in
    let begins = ap (λ t. machine wrapped_devices counter (part_of bound t left)) made.totals
    ∙ made.served (part_of bound (off_over disk) left) in
    let (run, any_moment) = moved bound.state last steps (ap (λ t. t.disk) made.totals) begins ran.run ran.any_moment in
    subst (λ (x : D). LeavesSteps contents left (bound.state disk) (bound.state x) steps) (sym ends)
    (record { end = last; run = run; any_moment = any_moment })

-- no run
pub leaves_nothing : {D : Type 0} (bound : DiskGhosts D) → ((disk : D) (bytes : List ℕ) → bound.honest disk
    → (bound.state disk).left_since (bound.state disk).moment bytes → MayLeave (bound.state disk) bytes)
    → (contents : Contents) (disk : D) {after : D} (left : List Standing) → after ≡ disk → bound.honest disk
    → LeavesOneOf left (bound.state disk) → LeavesSteps contents left (bound.state disk) (bound.state after) []
leaves_nothing {D} bound only contents disk left same honest leaves =
    subst (λ (x : D). LeavesSteps contents left (bound.state disk) (bound.state x) []) (sym same) (record {
      end = _;
      run = refl;
      any_moment = record {
        later = omega arith;
        each = λ bytes since. leaves bytes (only disk bytes honest since);
        before = λ t bytes early since. inl since;
      };
    })

module _ {B : Type 0} (below : FileGhosts B) (contents : Contents) (totals : Mirror (FileDisk B))
    (new : IsNewMirror totals) (after : Mirror (FileDisk B))
    (cuts : (is : IsMirrored below.calls after) (bytes : List ℕ) → CutMayLeave is bytes
    → (mirror_state after).left_since 0 bytes) (left : List Standing) (steps : List (Request × Response)) where
  -- a new mirror begins time
  begins : (mirror_state totals).moment ≡ 0
  begins = ap (λ (m : Mirror (FileDisk B)). length m.memory.past) new

  pub leaves_cuts : LeavesSteps contents left (mirror_state totals) (mirror_state after) steps
      → LeavesCuts below contents left totals after steps
  leaves_cuts moments = record {
    end = moments.end;
    run = moments.run;
    cut = λ is bytes cut. moments.any_moment.each bytes
        (subst (λ (t : ℕ). (mirror_state after).left_since t bytes) (sym begins) (cuts is bytes cut));
  }
