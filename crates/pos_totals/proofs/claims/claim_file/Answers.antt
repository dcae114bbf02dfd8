use Rattle.pos_totals.proofs.Common.{SFits, rules, to_z-of_z, w128}
use Rattle.pos_totals.proofs.ClaimLemmas.{claim_changes}
use Rattle.pos_totals.proofs.claims.claim_file.Goals as goal

pub returns-in-Ok : goal.returns-in-Ok
returns-in-Ok g c =
    let fits_handle : SFits w128 c.args.handle = search rules in
    let both = claim_changes c.args.store.now.tail c.args.control c.args.claiming
    (simp to_z-of_z at c.in-Ok.ensures) c.requires.sound in
    rw (c.reclaim.ensures, c.claim-claim.ensures) (record { sound = both.1; arranges = both.0 })
