use Rattle.pos_totals.proofs.ChangeLemmas.{theirs}
use Rattle.pos_totals.proofs.laws.are_their_files.Goals as goal

pub returns : goal.returns
returns g c =
    let inside = c.totals.inside in
    rw (← c.totals.view_is)
    (theirs inside.store.state inside.store.tail c.see_files.ensures.directory c.totals.invariant)
