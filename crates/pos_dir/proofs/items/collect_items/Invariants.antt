use Rattle.pos_dir.proofs.Common.{items_at, ◌-◌, ◌≡◌}
use Rattle.pos_dir.proofs.ItemLemmas.{with_front}
use Rattle.pos_dir.proofs.items.collect_items.Given as goal

abbrev pub invariant-loop : goal.invariant-loop
invariant-loop g l = with_front l.items.items (items_at g.T.Item.item_at (l.count - l.counter) l.rest)
    ≡ items_at g.T.Item.item_at l.count l.bytes
