use Rattle.pos_common.proofs.Common.{[], refl, sym, ◌∙◌}
use Rattle.pos_common.proofs.CheckLemmas.{let_through, lets_own}
use Rattle.pos_service.specs.Calls.{needs_of}
use Rattle.pos_common.proofs.control.Control.check_call.Goals as goal

pub returns : goal.returns
returns c =
    let control = c.args.self.now.control in
    let needs = needs_of c.args.category c.args.call.now in
    let there = sym c.place.ensures ∙ c.in-Some.is in
    let lets = let_through c.args.number _ control c.in_ok-check.was refl c.needs.ensures c.check.ensures
    in
    (there, lets_own c.args.number _ control needs (lets []), λ rows. rw there (rw there at (lets rows)))
