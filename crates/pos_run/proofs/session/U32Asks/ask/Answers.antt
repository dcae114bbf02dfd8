use Rattle.pos_run.proofs.Common.{None, ap, option_map, refl, spare_at, spares_in, sym, ◌∙◌, ◌≡◌}
use Rattle.pos_run.proofs.SessionLemmas.{asks_beside, asks_none}
use Rattle.pos_run.proofs.SpareLemmas.{empty_taken, none_taken, put_back}
use Rattle.pos_run.proofs.session.U32Asks.ask.Goals as goal

pub returns-in_default-clause-asks : goal.returns-in_default-clause-asks
returns-in_default-clause-asks g c =
    let none : spare_at (spares_in g.P.Peripheral c.args.session.now.spares.now) c.args.self.now ≡ None =
    sym c.take.ensures.taken ∙ ap (option_map g.P.Peripheral.state) c.in_default.is in
    asks_none _ _ _ _ _ _ _ (rw none refl) refl (rw (
      c.take.ensures.left,
      none_taken (spares_in g.P.Peripheral c.args.session.now.spares.now) c.args.self.now none,
    ) refl)

pub put-requires-clause-empty : goal.put-requires-clause-empty
put-requires-clause-empty g c =
    let there = sym c.take.ensures.taken ∙ ap (option_map g.P.Peripheral.state) c.in-Some.is in
    rw c.take.ensures.left (empty_taken (spares_in g.P.Peripheral c.args.session.now.spares.now) c.args.self.now there)

pub returns-in-Ok-clause-asks : goal.returns-in-Ok-clause-asks
returns-in-Ok-clause-asks g c =
    let there = sym c.take.ensures.taken ∙ ap (option_map g.P.Peripheral.state) c.in-Some.is in
    asks_beside c.in-Ok.ensures.step (rw there refl) (rw c.take.ensures.left refl) refl

pub returns-in-Err-clause-asks : goal.returns-in-Err-clause-asks
returns-in-Err-clause-asks g c =
    let there = sym c.take.ensures.taken ∙ ap (option_map g.P.Peripheral.state) c.in-Some.is in
    asks_beside c.in-Err.ensures.step (rw there refl) (rw (
      c.put.ensures.spares,
      c.in-Err.ensures.handed_back,
      c.take.ensures.left,
      put_back (spares_in g.P.Peripheral c.args.session.now.spares.now) c.args.self.now
          (g.P.Peripheral.state c.in-Some.peripheral) there,
    ) refl) refl
