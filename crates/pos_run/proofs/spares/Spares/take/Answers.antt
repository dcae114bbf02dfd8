use Rattle.pos_run.proofs.Common.{None, ap, arith, length, option_map, states_in, suc, sym, ◌-◌, ◌<◌, ◌∙◌, ◌≡◌}
use Rattle.pos_run.proofs.SpareLemmas.{service_set, serves_there, spare_is, state_there, states_set, with_is}
use Rattle.pos_run.proofs.spares.Spares.take.Goals as goal

pub returns-clause-taken : goal.returns-clause-taken
returns-clause-taken g c =
    let list = c.args.self.now.peripherals.items in
    let place = c.args.number - 1 in
    let is : c.args.number ≡ suc place = omega arith in
    let within : place < length list = omega arith in
    let at = state_there g.P.Peripheral list place within c.index_mut.ensures.value in
    ap (option_map g.P.Peripheral.state) c.take.ensures.value ∙ sym (spare_is (states_in g.P.Peripheral list) is at)

pub returns-clause-left : goal.returns-clause-left
returns-clause-left g c =
    let list = c.args.self.now.peripherals.items in
    let place = c.args.number - 1 in
    let is : c.args.number ≡ suc place = omega arith in
    rw c.take.ensures.after (states_set g.P.Peripheral list place None
    ∙ with_is (states_in g.P.Peripheral list) None is)

pub returns-clause-in_service : goal.returns-clause-in_service
returns-clause-in_service g c =
    let list = c.args.self.now.peripherals.items in
    let place = c.args.number - 1 in
    let within : place < length list = omega arith in
    rw c.take.ensures.value
    (serves_there g.P.Peripheral list place c.requires.sound.in_service within c.index_mut.ensures.value)

pub returns-clause-sound : goal.returns-clause-sound
returns-clause-sound g c =
    let list = c.args.self.now.peripherals.items in
    rw c.take.ensures.after (record {
      in_service = service_set g.P.Peripheral list (c.args.number - 1) None c.requires.sound.in_service tt;
    })
