use Rattle.std.proofs.Common.{◌∙◌, ap, arith, subst, sym}
use Rattle.pos_service.specs.Kinds.{is_printer}
use Rattle.pos_common.specs.KeptControls.{controls_of}
use Rattle.pos_printer.proofs.WorkLemmas.{IsFirst, does, fails, first_found, first_heard, has_request, room_for_first}
use Rattle.pos_printer.proofs.output.work.Goals as goal

pub complete-requires-clause-request : goal.complete-requires-clause-request
complete-requires-clause-request g c =
    let place = c.args.place in
    let holder = c.in-Some.holder in
    let f = first_found place holder (controls_of c.args.controls.now)
    (sym c.has_work.ensures.work ∙ c.if-not-has_work.false) in
    let roomy = subst (IsFirst place holder f.0) (sym c.room_all.ensures.same) f.1 in
    let heard = first_heard place holder f.0 c.signs-old.result c.signs.result _ _ roomy c.hear_all.ensures.heard in
    has_request place holder 1 f.0 c.hear_all.new.controls heard (omega arith)
    (c.hear_all.ensures.room 1 c.in_ok-room_all.ensures.room)

pub fail-requires-clause-request : goal.fail-requires-clause-request
fail-requires-clause-request g c = room_for_first c.args.place c.in-Some.holder _ c.room_all.new.controls
    (sym c.has_work.ensures.work ∙ c.if-not-has_work.false) c.room_all.ensures.same c.in_ok-room_all.ensures.room

pub returns-in-Done-clause-worked : goal.returns-in-Done-clause-worked
returns-in-Done-clause-worked g c =
    let asked = rw (c.in_ok-said.was, c.in-Done.is) at c.ask_for.ensures in
    does _ c.in-Some.holder c.args.place c.complete.result (controls_of c.args.controls.now) _ c.room_all.new.controls _
    _ _ (sym c.holder.ensures ∙ c.in-Some.is) (ap is_printer (sym c.kind.ensures.kind) ∙ sym c.is_printer.ensures
    ∙ c.if-not-is_printer.false) (sym c.has_work.ensures.work ∙ c.if-not-has_work.false) c.room_all.ensures.same _ _ _
    asked c.signs-old.ensures c.signs.ensures c.hear_all.ensures.heard c.complete.ensures

pub returns-in_default-2-clause-worked : goal.returns-in_default-2-clause-worked
returns-in_default-2-clause-worked g c =
    let asked = rw c.in_ok-said.was at c.ask_for.ensures in
    let answer = rw (c.code.ensures, c.extended.ensures) at c.fail.ensures.said in
    let changed = rw (c.code.ensures, c.extended.ensures) at c.fail.ensures.failed in
    fails _ c.in-Some.holder c.args.place c.fail.result (controls_of c.args.controls.now) _ c.room_all.new.controls _ _
    _ (sym c.holder.ensures ∙ c.in-Some.is) (ap is_printer (sym c.kind.ensures.kind) ∙ sym c.is_printer.ensures
    ∙ c.if-not-is_printer.false) (sym c.has_work.ensures.work ∙ c.if-not-has_work.false) c.room_all.ensures.same
    c.in_ok-said.said c.in_default-2.not-Done asked answer changed
