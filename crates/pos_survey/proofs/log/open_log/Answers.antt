use Rattle.std.proofs.Common.{◌≡◌, ℕ, map, Vec, Global, ap, sym, ◌∙◌, subst}
use Rattle.pos_image.proofs.LogLemmas.{log_here}
use Rattle.pos_image.specs.Layout.{layout_of}
use Rattle.pos_image.specs.Standing.{log_in, log_of}
use Rattle.pos_log.specs.Records.{HoldsSome}
use Rattle.pos_survey.proofs.RecordLemmas.{one_tail}
use Rattle.pos_survey.proofs.log.open_log.Goals as goal

pub returns-in-Ok-clause-tail : goal.returns-in-Ok-clause-tail
returns-in-Ok-clause-tail c =
    let opened = c.in-Ok.ensures in
    let held = opened.ready.records tt in
    let texts = map (λ (t : Vec ℕ Global). t.items) c.in-Ok.texts.items in
    let slot_is : layout_of c.in-Ok.log.images.slot ≡ layout_of c.args.images.slot =
    ap (λ im. layout_of im.slot) opened.same in
    one_tail held.0 texts held.1 (ap log_of ((opened.any_moment tt).reading ∙ c.requires.bytes))
    (rw c.requires.bytes at (opened.records tt)) held.2 slot_is

pub damage_of-requires-clause-damaged : goal.damage_of-requires-clause-damaged
damage_of-requires-clause-damaged c some =
    c.in-Err.ensures.damaged tt c.in-Damaged.is (subst HoldsSome (ap (log_in c.args.bytes.now) c.slot-slot.ensures
    ∙ sym (log_here c.requires.current) ∙ ap log_of (sym c.requires.bytes)) some)

pub returns-in-Damaged-clause-broken : goal.returns-in-Damaged-clause-broken
returns-in-Damaged-clause-broken c = rw (log_here c.requires.current) (rw c.slot-slot.ensures at c.damage_of.ensures)
