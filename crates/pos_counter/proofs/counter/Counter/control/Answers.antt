use Rattle.pos_counter.proofs.Common.{◌++◌, ◌<◌, Control, KeptControl, List, Machine, [], ap, arith, controls_of}
use Rattle.pos_counter.proofs.Common.{devices_in, length, length-map, machine, machine_with, map_push, most_controls}
use Rattle.pos_counter.proofs.Common.{part_with, refl, subst, sym, with_place, ◌∙◌, ◌∷◌, ◌≡◌}
use Rattle.pos_counter.proofs.ServiceLemmas.{quiet_serves, same_sound}
use Rattle.pos_counter.proofs.counter.Counter.control.Goals as goal

pub returns-then-is_err-clause-sound : goal.returns-then-is_err-clause-sound
returns-then-is_err-clause-sound g c =
    let old = c.args.self.now in
    same_sound
    (λ part. ap (λ (hs : List KeptControl). machine_with hs old.claims (devices_in g.P.Peripheral old.devices)
    old.totals_name part) c.reserve.ensures.items) c.requires.sound c.requires.sound.devices

pub returns-in-Ok : goal.returns-in-Ok
returns-in-Ok g c =
    let old = c.args.self.now in
    let hs = old.controls.items in
    let many : c.len-number.result ≡ length hs = omega (arith, c.len-number.ensures, old.controls.ok.0) in
    let count = many ∙ sym (length-map hs (λ (d : KeptControl). d.control)) in
    let room : c.len-number.result < most_controls = omega arith in
    let items =
    c.push_reserved.ensures.items ∙ ap (λ (ks : List KeptControl). ks ++ c.new.result ∷ []) c.reserve.ensures.items in
    let served = quiet_serves g.D.Disk g.P.Peripheral old _ _ _ refl (λ part. refl) (with_place old.totals.totals)
    (g.met.D.Disk.only_now _) c.add_control.ensures.disk c.in-Ok.ensures.ok
    (λ left. refl) c.requires.sound c.requires.sound.devices (λ left failures so. (
      subst (λ n. n < most_controls) count room,
      count,
      ap (λ cs. let m : Machine =
          record (machine g.P.Peripheral old (part_with (with_place old.totals.totals) left failures)) {
            controls = cs;
          } in m) (ap controls_of items ∙ map_push (λ (d : KeptControl). d.control) hs c.new.result ∙ ap
          (λ (one : Control). controls_of hs ++ one ∷ []) c.new.ensures),
    )) in
    record { step = served.step; sound = served.sound }

pub returns-in-Err-clause-sound : goal.returns-in-Err-clause-sound
returns-in-Err-clause-sound g c =
    let old = c.args.self.now in
    same_sound
    (λ part. ap (λ (hs : List KeptControl). machine_with hs old.claims (devices_in g.P.Peripheral old.devices)
    old.totals_name part) c.reserve.ensures.items) c.requires.sound c.requires.sound.devices
