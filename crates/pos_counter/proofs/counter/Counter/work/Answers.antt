use Rattle.pos_counter.proofs.Common.{Ok, Some, WorksAt, holder_at, refl, sym}
use Rattle.pos_counter.proofs.HardwareLemmas.{kept_in_place, on_hardware, want_finds_work}
use Rattle.pos_counter.proofs.OrderLemmas.{starved_orders, worked_orders}
use Rattle.pos_counter.proofs.ServiceLemmas.{steps_beside}
use Rattle.pos_counter.proofs.counter.Counter.work.Goals as goal

pub returns-in-Ok : goal.returns-in-Ok
returns-in-Ok g c =
    let old = c.args.self.now in
    let kept = kept_in_place old.controls _ c.deref_mut.ensures.value c.work_there.auto.controls in
    steps_beside c.requires.sound c.in-Ok.ensures.sound refl refl
    (λ part. worked_orders _ _ c.in-Some.place c.in-Some.ensures.0 c.in-Ok.worked c.in-Ok.ensures.orders)
    (λ part. on_hardware _ _ _ _ _ _ part c.in-Some.place _
    (λ place. WorksAt (holder_at old.claims (Some place)) place (Ok c.in-Ok.worked))
    c.in-Some.ensures.0 (rw (← kept) at (rw c.deref_mut.ensures.value at c.in-Ok.ensures.done)))

pub returns-in-Err : goal.returns-in-Err
returns-in-Err g c =
    let old = c.args.self.now in
    let kept = kept_in_place old.controls _ c.deref_mut.ensures.value c.work_there.auto.controls in
    steps_beside c.requires.sound c.in-Err.ensures.sound refl refl
    (λ part. starved_orders _ _ c.in-Some.place c.in-Some.ensures.0 c.in-Err.field-0 c.in-Err.ensures.orders)
    (λ part. want_finds_work _ _ _ _ _ _ part c.in-Some.place c.args.device.now c.in-Err.field-0
    (sym c.in-Some.ensures.0) (rw (← kept) at (rw c.deref_mut.ensures.value at c.in-Err.ensures.done)))
