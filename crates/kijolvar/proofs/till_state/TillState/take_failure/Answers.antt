use Rattle.kijolvar.proofs.Common.{inl, refl, sym, ◌∙◌}
use Rattle.std.proofs.Common.{inr}
use Rattle.pos_script.specs.Lines.{lines_of}
use Rattle.kijolvar.proofs.DrivenLemmas.{cuts_inputs, takes_failure}
use Rattle.kijolvar.proofs.RunLemmas.{lines_fixed}
use Rattle.kijolvar.specs.Tills.{session_in}
use Rattle.kijolvar.specs.Orders.{device_course as hosts}
use Rattle.kijolvar.specs.contracts.device.DevicePeripheral.TheImpl.{ghosts as devices}
use Rattle.kijolvar.specs.contracts.till_disk.TillDiskDisk.TheImpl.{ghosts as disks}
use Rattle.kijolvar.proofs.till_state.TillState.take_failure.Goals as goal

pub returns-then-is_ok-clause-takes : goal.returns-then-is_ok-clause-takes
returns-then-is_ok-clause-takes c =
    let begun = c.begin_answer.new.self in
    let ran = c.run_given_lines-self in
    let file = lines_fixed disks devices begun.counter ran.new.counter (session_in devices begun)
    (lines_of c.args.inputs.now) _ _ ran.result _ ran.ensures.lines in
    inl (takes_failure disks hosts devices _ _ ran.result c.begin_answer.ensures.begins ran.ensures.lines
    (sym c.is_ok.ensures.value ∙ c.if-is_ok.true) file c.report.ensures.stays c.report.ensures.hosts
    c.report.ensures.tally refl
    c.go_on.ensures.go_on c.go_on.ensures.rest)

pub returns-else-is_ok-clause-takes : goal.returns-else-is_ok-clause-takes
returns-else-is_ok-clause-takes c =
    let begun = c.begin_answer.new.self in
    let ran = c.run_given_lines-self in
    let file = lines_fixed disks devices begun.counter ran.new.counter (session_in devices begun)
    (lines_of c.args.inputs.now) _ _ ran.result _ ran.ensures.lines in
    inr (cuts_inputs disks hosts devices c.begin_answer.ensures.begins ran.ensures.lines
    (sym c.is_ok.ensures.value ∙ c.if-is_ok.false) file refl c.drop_held.ensures.drops
    (rw c.disk.ensures at c.is_in_step.ensures))
