use Rattle.pos_dir.proofs.Common.{AllByRecursion, IsChange, drop, outcome_of_all, rules}
use Rattle.std.proofs.lemmas.List.Elements.{All-from_recursion}
use Rattle.pos_dir.proofs.OutlineLemmas.{stage_on, stage_room}
use Rattle.pos_dir.proofs.outlines.check_within.Goals as goal

pub check-requires : goal.check-requires
check-requires g c =
    let total = stage_room c.loop-change.outlines.items
    (drop c.loop-change.change-index c.deref-change-items.result.now) c.loop-change.invariant in
    search rules

pub loop-change-preserved : goal.loop-change-preserved
loop-change-preserved g c =
    let changes = c.deref-change-items.result.now in
    let each : AllByRecursion IsChange changes = rw c.deref-change-items.ensures.value c.group.invariant.each in
    let i = c.loop-change.change-index in
    let change = c.change-item.result in
    let takes : IsChange change =
    rw c.change-item.is (All-from_recursion IsChange changes each i change c.loop-change-test.true) in
    stage_on c.args.limits c.loop-change.outlines.items changes i change (outcome_of_all c.args.limits c.args.files.now
    c.args.group.now) c.loop-change-test.true c.change-item.is c.loop-change.invariant c.check.new.outlines.items takes
    c.in_ok-check.ensures
