use Rattle.pos_common.proofs.Common.{KeptControl, [], ap, is_none, needs_of, refl, row_of, when, ◌&&◌, ◌∙◌, ◌∷◌}
use Rattle.pos_service.specs.declared.code.Code.TheVariants as code
use Rattle.pos_common.proofs.CheckLemmas.{gets_by_rest, kept_out, let_through, refused}
use Rattle.pos_common.proofs.control.Control.get.Goals as goal

pub returns-in-Ok : goal.returns-in-Ok
returns-in-Ok c =
    let needs =
    c.needs.ensures ∙ ap (λ (held : KeptControl). needs_of held.control.category c.args.property) c.self.view_is in
    gets_by_rest _ _ _ _ _ (let_through c.args.number _ c.args.self.now.control c.in-Ok.is refl needs c.check_by.ensures
    (when ((row_of c.args.property).is_of_files && is_none c.args.context.now.files) code.Failure ∷ []))
    c.read_property.ensures

pub returns-in-Err : goal.returns-in-Err
returns-in-Err c =
    let needs =
    c.needs.ensures ∙ ap (λ (held : KeptControl). needs_of held.control.category c.args.property) c.self.view_is in
    refused _ _ (kept_out c.args.number _ c.args.self.now.control c.in-Err.is refl needs c.check_by.ensures
    (when ((row_of c.args.property).is_of_files && is_none c.args.context.now.files) code.Failure ∷ [])) tt
