use Rattle.pos_totals.proofs.Common.{sym, ◌∙◌}
use Rattle.pos_totals.proofs.AreaLemmas.{sound_claimed}
use Rattle.pos_totals.proofs.claims.claim_area.Goals as goal

pub returns-clause-sound : goal.returns-clause-sound
returns-clause-sound g c = sound_claimed c.args.store.now.state c.args.store.now.tail
    (sym c.is_area_taken.ensures ∙ c.if-is_area_taken.false) c.requires.sound
