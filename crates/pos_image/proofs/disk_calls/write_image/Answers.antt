use Rattle.pos_image.proofs.Common.{DiskState, Slot, ap, arith, layout_of, length, log_place, rules, slot_size, start}
use Rattle.pos_image.proofs.Common.{◌+◌, ◌-◌, ◌∙◌, ◌≡◌}
use Rattle.pos_image.proofs.PlaceLemmas.{places}
use Rattle.pos_image.proofs.StageLemmas.{IsRun, fields_written, run_start, run_sync, run_write, where_ok}
use Rattle.pos_image.proofs.disk_calls.write_image.Given.{Over}
use Rattle.pos_image.proofs.disk_calls.write_image.Goals.{After-write, After-write-2, After-write-3}
use Rattle.pos_image.proofs.disk_calls.write_image.Goals as goal

-- only the slot was written, behind its gate
abbrev IsBehind : Slot → DiskState → DiskState → Type 0
IsBehind slot old new = IsRun (start slot + 1) (slot_size (layout_of slot) - 1) old new

first_run : (g : Over) (c : After-write g) → g.D.Disk.honest c.args.disk.now
    → IsBehind c.args.image.now.slot (g.D.Disk.state c.args.disk.now) (g.D.Disk.state c.write.new.self)
first_run g c honest = run_write (omega (arith, c.start-at.ensures)) (omega (
  arith,
  places c.args.image.now.slot,
  c.start-at.ensures,
  ap length c.head_of.ensures.bytes,
)) (c.write.ensures.writes honest) (run_start (λ f left. g.met.D.Disk.only_now c.args.disk.now f honest left))

second_run : (g : Over) (c : After-write-2 g) → g.D.Disk.honest c.args.disk.now
    → IsBehind c.args.image.now.slot (g.D.Disk.state c.args.disk.now) (g.D.Disk.state c.write.new.self)
    → IsBehind c.args.image.now.slot (g.D.Disk.state c.args.disk.now) (g.D.Disk.state c.write-2.new.self)
second_run g c honest run = run_write (omega (arith, c.start-at.ensures)) (omega (
  arith,
  places c.args.image.now.slot,
  c.start-at.ensures,
  c.requires.short,
)) (c.write-2.ensures.writes (c.write.ensures.honest.0 honest)) run

third_run : (g : Over) (c : After-write-3 g) → g.D.Disk.honest c.args.disk.now
    → IsBehind c.args.image.now.slot (g.D.Disk.state c.args.disk.now) (g.D.Disk.state c.write-2.new.self)
    → IsBehind c.args.image.now.slot (g.D.Disk.state c.args.disk.now) (g.D.Disk.state c.write-3.new.self)
third_run g c honest run =
    let here = places c.args.image.now.slot in
    let log_is = c.log.ensures ∙ ap log_place c.layout.ensures in
    run_write (omega (arith, c.start-at.ensures)) (omega (arith, c.start-at.ensures))
    (c.write-3.ensures.writes (c.write-2.ensures.honest.0 (c.write.ensures.honest.0 honest))) run

pub returns-in_err-write-clause-any_moment : goal.returns-in_err-write-clause-any_moment
returns-in_err-write-clause-any_moment g c honest =
    (first_run g (goal.at.returns-in_err-write-clause-any_moment g c).After-write honest).moments

pub returns-in_err-write-2-clause-any_moment : goal.returns-in_err-write-2-clause-any_moment
returns-in_err-write-2-clause-any_moment g c honest =
    let at = goal.at.returns-in_err-write-2-clause-any_moment g c in
    (second_run g at.After-write-2 honest (first_run g at.After-write honest)).moments

pub returns-in_err-write-3-clause-any_moment : goal.returns-in_err-write-3-clause-any_moment
returns-in_err-write-3-clause-any_moment g c honest =
    let at = goal.at.returns-in_err-write-3-clause-any_moment g c in
    (third_run g at.After-write-3 honest
    (second_run g at.After-write-2 honest (first_run g at.After-write honest))).moments

pub returns-clause-any_moment : goal.returns-clause-any_moment
returns-clause-any_moment g c honest =
    let at = goal.at.returns-clause-any_moment g c in
    let honest3 = c.write-3.ensures.honest.0 (c.write-2.ensures.honest.0 (c.write.ensures.honest.0 honest)) in
    (run_sync (c.sync.ensures.syncs honest3) (third_run g at.After-write-3 honest
    (second_run g at.After-write-2 honest (first_run g at.After-write honest)))).moments

pub returns-clause-written : goal.returns-clause-written
returns-clause-written g c honest =
    let honest1 = c.write.ensures.honest.0 honest in
    let honest2 = c.write-2.ensures.honest.0 honest1 in
    let first = (c.in_ok-write.ensures.writes honest).written in
    let second = (c.in_ok-write-2.ensures.writes honest1).written in
    let third = (c.in_ok-write-3.ensures.writes honest2).written in
    let same = (c.sync.ensures.syncs (c.write-3.ensures.honest.0 honest2)).reading in
    let log_is = c.log.ensures ∙ ap log_place c.layout.ensures in
    let whole = g.met.D.Disk.whole c.args.disk.now honest in
    let size : c.len.result ≡ length c.args.image.now.body.items = search rules in
    where_ok c.sync.result _ (rw (same, third, second, first, log_is, c.start-at.ensures, c.deref.ensures.value)
    (fields_written (g.D.Disk.state c.args.disk.now).reading c.head_of.result c.args.image.now.body.items
    c.args.image.now.slot c.args.image.now.sequence (omega (arith, whole, c.requires.large)) c.requires.short
    c.head_of.ensures.counted (rw size at c.head_of.ensures.bytes)))
