use Rattle.pos_dir.proofs.Common.{change_at, items_at, option_map, ◌-◌, ◌≡◌}
use Rattle.pos_dir.proofs.changes.skip_changes.Given as goal

abbrev pub invariant-loop : goal.invariant-loop
invariant-loop l = option_map (λ x. x.1) (items_at change_at (l.count - l.counter) l.rest)
    ≡ option_map (λ x. x.1) (items_at change_at l.count l.bytes)
