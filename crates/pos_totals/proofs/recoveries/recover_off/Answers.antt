use Rattle.pos_totals.proofs.Common.{sym}
use Rattle.pos_totals.proofs.RecoveryLemmas.{shown, store_failed, store_found, store_found_more, was_off}
use Rattle.pos_totals.proofs.recoveries.recover_off.Goals as goal

pub returns-in-Err : goal.returns-in-Err
returns-in-Err g c =
    let both = store_failed (was_off c.requires.off) c.requires.sound c.in-Err.ensures c.recovery_fault.ensures in
    record { sound = both.1; recovers = both.0 }

pub returns-then-number : goal.returns-then-number
returns-then-number g c =
    let shows = shown (sym c.in-Some.ensures.files) in
    let both = store_found (was_off c.requires.off) shows c.requires.sound c.in-Ok.ensures
    (rw (c.if-number.true, c.len-count.ensures) at c.number.ensures) in
    rw c.layout-holdings.ensures (record { sound = both.1; recovers = both.0 })

pub returns : goal.returns
returns g c =
    let shows = shown (sym c.in-Some.ensures.files) in
    let both = store_found_more (was_off c.requires.off) shows c.requires.sound c.in-Ok.ensures
    (rw (c.if-number.false, c.len-count.ensures) at c.number.ensures) c.replace_with.ensures in
    record { sound = both.1; recovers = both.0 }
