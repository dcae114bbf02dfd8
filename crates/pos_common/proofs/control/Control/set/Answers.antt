use Rattle.pos_common.proofs.Common.{KeptControl, ap, arith, is_in, needs_to_set, refl, row_of, value_rows, ◌∙◌}
use Rattle.pos_common.proofs.CheckLemmas.{asks_second, kept_out, let_through, refused, sets_by_rest}
use Rattle.pos_common.proofs.control.Control.set.Goals as goal

pub set_value-requires : goal.set_value-requires
set_value-requires c =
    let is_of = is_in (row_of c.args.property).category c.args.self.now.control.category in
    grind (
      arith,
      asks_second c.args.number c.args.holder c.args.self.now.control c.needs_to_set.result is_of
          (row_of c.args.property).is_settable,
    )

pub returns-in-Ok : goal.returns-in-Ok
returns-in-Ok c =
    let needs = c.needs_to_set.ensures
    ∙ ap (λ (held : KeptControl). needs_to_set held.control.category c.args.property) c.self.view_is in
    sets_by_rest _ _ _ _ _ _ _ (let_through c.args.number _ c.args.self.now.control c.in-Ok.is refl needs
    c.check_by.ensures (value_rows c.args.kind c.args.self.now.control c.args.property c.args.value.now))
    c.set_value.ensures

pub returns-in-Err : goal.returns-in-Err
returns-in-Err c =
    let needs = c.needs_to_set.ensures
    ∙ ap (λ (held : KeptControl). needs_to_set held.control.category c.args.property) c.self.view_is in
    refused _ _ (kept_out c.args.number _ c.args.self.now.control c.in-Err.is refl needs c.check_by.ensures
    (value_rows c.args.kind c.args.self.now.control c.args.property c.args.value.now)) refl
