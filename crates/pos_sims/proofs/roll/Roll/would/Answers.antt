use Rattle.pos_sims.proofs.Common.{arith, nat_tests, pieces_asked}
use Rattle.pos_sims.proofs.NeedLemmas.{needed}
use Rattle.pos_sims.proofs.roll.Roll.would.Goals as goal

pub returns-then-request_fits : goal.returns-then-request_fits
returns-then-request_fits c =
    let roll = c.args.self.now in
    let lines = needed roll.chars (record { items = roll.items; buffer = roll.buffer }) (pieces_asked c.args.asked.now)
    (grind arith) (grind arith) in
    grind (arith, nat_tests, lines)

pub returns-else-request_fits : goal.returns-else-request_fits
returns-else-request_fits c =
    let roll = c.args.self.now in
    let lines = needed roll.chars (record { items = roll.items; buffer = roll.buffer }) (pieces_asked c.args.asked.now)
    (grind arith) (grind arith) in
    grind (arith, nat_tests, lines)
