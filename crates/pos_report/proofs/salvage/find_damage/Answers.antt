use Rattle.std.proofs.Common.{arith}
use Rattle.pos_report.proofs.OpenGateLemmas.{damaged_open}
use Rattle.pos_report.proofs.salvage.find_damage.Goals.{in-Err, in-Err-Damaged, in-Ok}
use Rattle.pos_report.proofs.salvage.find_damage.Goals as goal

pub returns : goal.returns
returns c = elim c.match-of.branch [
  | in-Ok w ↦ grind arith
  | in-Err-Damaged w ↦
      let found = w.in-Err-Damaged in
      let breaks = rw found.field-0-is at found.ensures.broken in
      let opened = damaged_open c.args.bytes.now found.at found.rule (λ i. omega (arith, c.type_inv.bytes i)) c.requires
      breaks in
      rw w.result-is (breaks, opened)
  | in-Err w ↦ grind arith
]
