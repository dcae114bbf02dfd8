use Rattle.std.proofs.Common.{arith}
use Rattle.std.proofs.lemmas.Bool.Decides.{nat_tests}
use Rattle.pos_service.specs.Receipts.{pieces, pieces_in}
use Rattle.pos_sims.specs.PaperNeeds.{needs}
use Rattle.pos_sims.proofs.NeedLemmas.{front_need, rises}
use Rattle.pos_sims.proofs.paper_needs.text_fits.Goals as goal

pub returns-in_default : goal.returns-in_default
returns-in_default c =
    let token = pieces_in c.next_token-token.result.0 in
    let next = pieces c.next_token-token.result.1.now in
    let two =
    front_need c.args.chars c.loop-rest.n token next (pieces c.loop-rest.rest.now) c.next_token-token.ensures.pieces in
    let more = rises c.args.chars (needs c.args.chars c.loop-rest.n token) next in
    grind (arith, nat_tests, two, more, c.loop-rest.invariant.same, c.in_default.ensures.none, c.in_default.is)
