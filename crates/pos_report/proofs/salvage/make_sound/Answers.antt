use Rattle.std.proofs.Common.{◌∙◌, ap, arith, length, sym}
use Rattle.pos_report.proofs.GateLemmas.{closes_length, makes}
use Rattle.pos_report.specs.Salvage.{can_be_put}
use Rattle.pos_report.proofs.salvage.make_sound.Goals as goal

pub can_be_put-requires : goal.can_be_put-requires
can_be_put-requires c =
    let same = closes_length _ _ _ _ c.in-Err.fault c.in-Err.ensures in
    omega (arith, c.requires, same, ap length c.as_slice.ensures.value)

pub returns : goal.returns
returns c =
    let can = ap (can_be_put c.in-Err.fault) (sym c.as_slice.ensures.value) ∙ sym c.can_be_put.ensures
    ∙ c.if-not-can_be_put.false in
    makes _ _ _ _ _ _ _ _ c.in-Err.fault _ c.in-Err.ensures can c.in_ok-put_first_image.ensures c.close_gates-2.ensures
