use Rattle.pos_log.proofs.Common.{[], part, refl, rules, ◌++◌, ◌+◌, ◌∷◌}
use Rattle.pos_log.proofs.RecordLemmas.{begins_more, open_byte}
use Rattle.pos_log.proofs.records.find_damage.Goals as goal

pub loop-length-preserved : goal.loop-length-preserved
loop-length-preserved c =
    let before = c.loop-length.invariant in
    let at = c.loop-length.at in
    let group = part (at + 5) c.in-Some.length c.args.span.now in (
      before.0 ++ group ∷ [],
      begins_more before.0 at c.in-Some.length c.args.span.now group before.1
          (open_byte _ (search rules)) c.in-Some.ensures refl,
    )
