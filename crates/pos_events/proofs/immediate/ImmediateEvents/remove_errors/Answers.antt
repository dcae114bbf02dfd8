use Rattle.pos_events.proofs.Common.{List, PlacedEvent, arith, drop_more, length, length-drop, subst, ◌<◌}
use Rattle.pos_events.proofs.ImmediateLemmas.{Removing, removing_error, removing_kept, removing_some}
use Rattle.pos_events.proofs.immediate.ImmediateEvents.remove_errors.Goals.{in-Some+else-not-is_error}
use Rattle.pos_events.proofs.immediate.ImmediateEvents.remove_errors.Goals.{in-Some+then-not-is_error, in_default}
use Rattle.pos_events.proofs.immediate.ImmediateEvents.remove_errors.Goals as goal

pub loop-preserved : goal.loop-preserved
loop-preserved c =
    let start = c.args.self.now.events.items in
    let items = c.loop.self.events.items in
    let len = c.args.self.now.events.ok.0 in
    let within : c.loop.counter < length start = omega (arith, c.len-end.ensures) in
    let next = λ (placed : PlacedEvent). subst (λ (l : List PlacedEvent). Removing start l c.loop.before items)
    (drop_more start c.loop.counter placed within) c.loop.invariant.removing in
    elim c.match-pop_front.branch [
      | in-Some+then-not-is_error w ↦
          let kept = removing_kept c.loop.before (next w.in-Some.placed) w.in-Some.ensures.items (grind arith) in
          grind (arith, kept, w, c.loop.invariant)
      | in-Some+else-not-is_error w ↦
          let error = removing_error (next w.in-Some.placed) w.in-Some.ensures.items (grind arith) in
          grind (arith, error, w, c.loop.invariant)
      | in_default w ↦
          let some = removing_some c.loop.invariant.removing in
          absurd (omega (
            arith,
            c.loop.self.events.ok.0,
            some,
            length-drop c.loop.counter start,
            w.in_default.ensures.cases,
          ))
    ]
