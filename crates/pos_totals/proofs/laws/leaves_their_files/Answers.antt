use Rattle.pos_totals.proofs.PutGroupLemmas.{their_files}
use Rattle.pos_totals.proofs.laws.leaves_their_files.Goals as goal

pub returns : goal.returns
returns g c =
    let inside = c.totals.inside in
    rw (← c.totals.view_is)
    (λ h. their_files inside.store.state (g.D.Disk.state inside.store.disk) c.totals.invariant
    (c.leaves_its_files.ensures h))
