use Rattle.pos_counter.proofs.Common.{Ok, TakenAt, hardware_of, refl, sym, ◌∙◌}
use Rattle.pos_counter.proofs.HardwareLemmas.{kept_in_place, on_hardware, unchanged}
use Rattle.pos_counter.proofs.OrderLemmas.{input_orders}
use Rattle.pos_counter.proofs.ServiceLemmas.{steps_beside}
use Rattle.pos_counter.proofs.counter.Counter.input.Goals as goal

pub returns-in-Ok : goal.returns-in-Ok
returns-in-Ok g c =
    let old = c.args.self.now in
    let kept = kept_in_place old.controls _ c.deref_mut.ensures.value c.input_there.auto.controls in
    steps_beside c.requires.sound c.in-Ok.ensures.sound refl refl
    (λ part. input_orders _ _ c.in-Some.place c.in-Ok.ensures.orders)
    (λ part. on_hardware _ _ _ _ _ _ part c.in-Some.place _
    (λ place. TakenAt c.args.input.now place (Ok tt)) c.in-Some.ensures.0
    (rw (← kept) at (rw c.deref_mut.ensures.value at c.in-Ok.ensures.done)))

pub returns-in-Err : goal.returns-in-Err
returns-in-Err g c =
    let old = c.args.self.now in
    let kept = kept_in_place old.controls _ c.deref_mut.ensures.value c.input_there.auto.controls in
    let before = hardware_of (g.P.Peripheral.state c.in-Some.peripheral.now) in
    let done = rw (← kept) at (rw c.deref_mut.ensures.value at c.in-Err.ensures.done) in
    let fit = rw c.kind.ensures.kind at (sym c.fits.ensures ∙ c.if-not-fits.false) in
    steps_beside c.requires.sound c.in-Err.ensures.sound refl refl
    (λ part. input_orders _ _ c.in-Some.place c.in-Err.ensures.orders) (λ part. (
      record { before = before; is_attached = rw c.in-Some.ensures.0 c.in-Some.ensures.1; fit = fit },
      unchanged _ _ _ _ _ _ part c.in-Some.place done done.does,
    ))
