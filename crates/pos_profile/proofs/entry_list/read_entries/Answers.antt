use Rattle.pos_profile.proofs.Common.{arith, length-map, sym, view, ◌∙◌}
use Rattle.pos_profile.proofs.ListLemmas.{all_read, flawed_at, goes_on, second_at, taken, value_at}
use Rattle.pos_profile.proofs.entry_list.read_entries.Goals as goal

pub returns-in-Err-Flawed : goal.returns-in-Err-Flawed
returns-in-Err-Flawed c =
    let at = value_at c.args.values.now (omega arith) c.index-values-place.is in
    let flawed = rw c.in-Err-Flawed.field-0-is at c.in-Err-Flawed.ensures in
    rw c.in-Err-Flawed.reason-is
    (flawed_at c.args.role _ _ _ at c.loop-place.invariant.sound c.in-Err-Flawed.reason flawed (omega arith))

pub returns-then-is_second_totals : goal.returns-then-is_second_totals
returns-then-is_second_totals c =
    let at = value_at c.args.values.now (omega arith) c.index-values-place.is in
    second_at c.args.role _ _ _ at c.loop-place.invariant.sound c.in-Ok-read_value.entry c.in-Ok-read_value.ensures _
    c.loop-place.invariant.so_far
    (rw (← c.deref.ensures.value) (sym c.is_second_totals.ensures ∙ c.if-is_second_totals.true)) (omega arith)

pub loop-place-preserved : goal.loop-place-preserved
loop-place-preserved c =
    let at = value_at c.args.values.now (omega arith) c.index-values-place.is in
    let entry = c.in-Ok-read_value.entry in
    let plain = rw c.deref.ensures.value at (sym c.is_second_totals.ensures ∙ c.if-is_second_totals.false) in
    record {
      so_far = rw c.push_reserved.ensures.items (taken c.args.role _ _ _
          at c.loop-place.invariant.sound entry c.in-Ok-read_value.ensures _ c.loop-place.invariant.so_far);
      sound = goes_on c.args.role _ _ _
          at c.loop-place.invariant.sound entry c.in-Ok-read_value.ensures _ c.loop-place.invariant.so_far plain;
      count = omega arith;
      room = omega arith;
    }

pub returns : goal.returns
returns c = all_read (omega (arith, length-map c.args.values.now view)) c.loop-place.invariant.so_far
    c.loop-place.invariant.sound
