use Rattle.pos_totals.proofs.ClaimLemmas.{control_dropped}
use Rattle.pos_totals.proofs.transaction_calls.drop_control.Goals as goal

pub returns : goal.returns
returns g c =
    let both = control_dropped c.args.store.now.tail c.args.control c.requires.sound in
    rw (c.reclaim.ensures, c.keep_foreign-holdings.ensures, c.set.ensures) (record { sound = both.1; totals = both.0 })
