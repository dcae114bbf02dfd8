use Rattle.pos_disk.proofs.Common.{LeftAt, List, Memory, choose, filled, length, length-map, length-replicate, loose_by}
use Rattle.pos_disk.proofs.Common.{memory_of, replicate, ℕ, ◌==◌, ◌∙◌, ◌≡◌}
use Rattle.pos_disk.specs.declared.memory.Fill.{Fill}
use Rattle.pos_disk.proofs.StampLemmas.{choose_left, choose_same, saved_all}
use Rattle.pos_disk.proofs.memory.MemDisk.crash.Goals.{After-new, in-Byte+in_ok-bytes-in-Byte}
use Rattle.pos_disk.proofs.memory.MemDisk.crash.Goals.{in-New+in_ok-bytes-in-New, in-Old+in_ok-bytes-in-Old}
use Rattle.pos_disk.proofs.memory.MemDisk.crash.Goals as goal
use Rattle.std.proofs.Common.{arith}
use Rattle.std.proofs.lemmas.Grind.{common_steps}

abbrev shown : After-new → Memory
shown c =
    let d = c.self.inside in
    memory_of d.bytes.items d.saved.items d.stamps.items d.stamp d.past.moments

-- the loose places, one for each byte
loose_long : (c : After-new)
    → length (loose_by c.self.inside.stamp c.self.inside.stamps.items) ≡ length c.self.inside.bytes.items
loose_long c = length-map c.self.inside.stamps.items (λ s. s == c.self.inside.stamp) ∙ c.self.invariant.stamps_length

record IsAnswered (c : After-new) : Type 0 where
  filled : c.save.new.saved.items ≡ filled c.args.fill (shown c)
  left : LeftAt (shown c).present c.save.new.saved.items

answered : (c : After-new) (fill : Fill) (xs : List ℕ) → c.args.fill ≡ fill → c.match-fill.bytes.items ≡ xs
    → length xs ≡ length c.self.inside.bytes.items → choose (loose_by c.self.inside.stamp c.self.inside.stamps.items) xs
    c.self.inside.bytes.items ≡ filled fill (shown c) → IsAnswered c
answered c fill xs is starts long holds =
    grind (arith, common_steps, length, saved_all, filled, choose_left, loose_long)

answer : (c : After-new) → IsAnswered c
answer c = grind (arith, common_steps, answered, choose_same, loose_by, loose_long, replicate, length, length-replicate)

pub returns-clause-filled : goal.returns-clause-filled
returns-clause-filled c = rw (← c.self.view_is, ← (answer c).filled) c.new.ensures
