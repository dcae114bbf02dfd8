use Rattle.std.proofs.Common.{Ok, Some, ap, refl, subst, arith, length, sym, true, ◌≡◌}
use Rattle.std.specs.Prelude.{slice_set}
use Rattle.pos_image.specs.Layout.{is_open}
use Rattle.pos_survey.specs.Damages.{Breaks}
use Rattle.pos_report.specs.Salvage.{Finds}
use Rattle.pos_report.proofs.GateLemmas.{says_same}
use Rattle.pos_report.proofs.OpenGateLemmas.{open_within}
use Rattle.pos_report.proofs.salvage.step.Goals.{In-Ok-Some}
use Rattle.pos_report.proofs.salvage.step.Goals as goal

-- what is damaged in the copy
damage : (c : In-Ok-Some) → Finds c.args.copy.now.items (Ok (Some c.in-Ok-Some.found))
damage c = subst (λ bytes. Finds bytes (Ok (Some c.in-Ok-Some.found))) c.as_slice.ensures.value
    (subst (λ o. Finds c.as_slice.result.now (Ok o)) c.in-Ok-Some.field-0-is c.in-Ok-Some.ensures)

pub returns-in-Err : goal.returns-in-Err
returns-in-Err c =
    let (breaks, ends) = c.in-Err.ensures in
    let here = subst (λ bytes. Breaks bytes c.in-Err.fault) c.as_slice.ensures.value breaks in
    (here, ends, refl, says_same c.in-Err.fault _)

pub index_mut-requires : goal.index_mut-requires
index_mut-requires c =
    let opened = subst (λ gate. is_open c.args.copy.now.items gate ≡ true) (sym c.gate_of-gate.ensures)
    (damage (goal.at.index_mut-requires c).In-Ok-Some).1 in
    let within = open_within c.args.copy.now.items c.gate_of-gate.result opened in
    omega (arith, within, c.as_slice.ensures.len, ap length c.as_slice.ensures.value)

pub returns : goal.returns
returns c =
    let found = c.in-Ok-Some.found in
    let finds = damage (goal.at.returns c).In-Ok-Some in
    let closes = ap (λ gate. slice_set c.args.copy.now.items gate 0) c.gate_of-gate.ensures in
    (found.0, found.1, finds.0, finds.1, closes, c.in_ok-put_lost.ensures)
