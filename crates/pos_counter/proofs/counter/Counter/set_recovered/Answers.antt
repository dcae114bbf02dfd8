use Rattle.pos_counter.proofs.Common.{[], kind_of, machine, part_with, refl, same_Some, signs_at, sym, ◌∙◌}
use Rattle.pos_counter.proofs.LiftLemmas.{kept_at, set_machine}
use Rattle.pos_counter.proofs.SoundnessLemmas.{totals_category}
use Rattle.pos_counter.proofs.RecoveryLemmas.{asks_there, done_set, failed_serves, recovered_serves, starved_serves}
use Rattle.pos_counter.proofs.counter.Counter.set_recovered.Goals as goal

pub returns-in-Ok : goal.returns-in-Ok
returns-in-Ok g c =
    let hs = c.args.self.now.controls.items in
    let n = c.args.number in
    let h = c.index_mut-control.result.now in
    let m = machine g.P.Peripheral c.args.self.now (part_with c.args.self.now.totals.totals [] 0) in
    let there = asks_there c.requires.recovers in
    let same = same_Some h.control there.control
    (sym (kept_at hs n h c.requires.in_range c.index_mut-control.ensures.value) ∙ there.at) in
    let part = part_with c.args.self.now.totals.totals [] 0 in
    let is = totals_category n (c.requires.sound.machine part) there.at there.totals in
    let done = done_set there.control is n _ (kind_of m h.control) (signs_at m h.control) h c.set_control.new.control
    there.opened same there.names there.gives c.set_control.ensures in
    recovered_serves g.D.Disk g.P.Peripheral c.args.self.now _ refl refl c.requires.sound c.requires.sound.devices n _ _
    there c.set_control.result done.0
    c.in-Ok.ensures (λ part. set_machine hs _ _ _ part n c.set_control.new.control (rw same at done.1))

pub returns-in-Ok-code : goal.returns-in-Ok-code
returns-in-Ok-code g c = failed_serves g.D.Disk g.P.Peripheral c.args.self.now _ refl refl
    c.requires.sound c.requires.sound.devices c.args.number _ _ (asks_there c.requires.recovers) c.in-Err.fault
    c.in-Err.ensures (λ part. refl) c.in-Ok-code.code c.in-Ok-code.ensures

pub returns-in-Err-code : goal.returns-in-Err-code
returns-in-Err-code g c =
    starved_serves g.D.Disk g.P.Peripheral c.args.self.now _ refl refl c.requires.sound c.requires.sound.devices
    c.args.number _ _ (asks_there c.requires.recovers) c.in-Err.fault c.in-Err.ensures (λ part. refl)
    c.in-Err-code.ensures
