use Rattle.pos_run.proofs.Common.{Some, arith, states_in, suc, sym, ◌-◌, ◌∙◌, ◌≡◌}
use Rattle.pos_run.proofs.SpareLemmas.{no_box, service_set, states_set, with_is}
use Rattle.pos_run.proofs.spares.Spares.put.Goals as goal

pub unreachable-requires : goal.unreachable-requires
unreachable-requires g c =
    let list = c.args.self.now.peripherals.items in
    let place = c.args.number - 1 in
    let is : c.args.number ≡ suc place = omega (arith, c.requires.empty.1) in
    no_box g.P.Peripheral list place is c.requires.empty c.index_mut.ensures.value
    (sym c.replace.ensures.value ∙ c.in-Some.is)

pub returns-clause-spares : goal.returns-clause-spares
returns-clause-spares g c =
    let list = c.args.self.now.peripherals.items in
    let place = c.args.number - 1 in
    let is : c.args.number ≡ suc place = omega (arith, c.requires.empty.1) in
    rw c.replace.ensures.after (states_set g.P.Peripheral list place (Some c.args.peripheral)
    ∙ with_is (states_in g.P.Peripheral list) (Some (g.P.Peripheral.state c.args.peripheral)) is)

pub returns-clause-sound : goal.returns-clause-sound
returns-clause-sound g c =
    let list = c.args.self.now.peripherals.items in
    rw c.replace.ensures.after (record {
      in_service = service_set g.P.Peripheral list (c.args.number - 1)
          (Some c.args.peripheral) c.requires.sound.in_service c.requires.unparked;
    })
