use Rattle.std.proofs.Common.{◌+◌, ℕ, sym, ◌∙◌, ap}
use Rattle.pos_image.specs.Layout.{start}
use Rattle.pos_store.proofs.RecoveryLemmas.{damaged_stands}
use Rattle.pos_survey.proofs.HeadLemmas.{long_body}
use Rattle.pos_survey.proofs.image.damage_of.Goals as goal

pub returns : goal.returns
returns c bytes heads is =
    let apart = sym (c.is_tied.ensures bytes heads) ∙ c.if-is_tied.false in (
      damaged_stands bytes is,
      (
        (apart, long_body bytes is apart),
        ap (λ (k : ℕ). k + 9) (c.start.ensures ∙ ap start (c.current_slot.ensures bytes heads)),
      ),
    )
