use Rattle.pos_dir.proofs.Common.{file_at, has_name, items_at, option_map, ◌-◌, ◌≡◌}
use Rattle.pos_dir.proofs.files.is_used.Given as goal

abbrev pub invariant-loop : goal.invariant-loop
invariant-loop l = option_map (λ files. has_name files.0 l.name) (items_at file_at (l.count - l.counter) l.rest)
    ≡ option_map (λ files. has_name files.0 l.name) (items_at file_at l.count l.bytes)
