use Rattle.pos_disk.proofs.Common.{List, Moment, ap, fresh, length, length-replicate, replicate, rules, ◌∙◌, ◌≡◌}
use Rattle.pos_disk.proofs.StampLemmas.{memory_fresh, zeros}
use Rattle.pos_disk.proofs.memory.MemDisk.new.Goals as goal

pub returns : goal.returns
returns c =
    let size = length c.args.bytes.items in
    let none : c.in_ok-stamps.stamps.items ≡ replicate size 0 = search rules in
    let copied : c.in_ok-saved.saved.items ≡ c.args.bytes.items = search rules in
    memory_fresh c.in_ok-saved.saved.items c.in_ok-stamps.stamps.items c.new.result.moments (ap length copied)
    (ap length none ∙ length-replicate size 0) (rw none (zeros size)) ∙ ap
    (λ (past : List Moment). record (fresh c.args.bytes.items) { past = past }) c.new.ensures
