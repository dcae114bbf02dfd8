use Rattle.pos_dir.proofs.Common.{are_distinct, file_at, items_at, option_map, ◌-◌, ◌≡◌}
use Rattle.pos_dir.proofs.files.are_distinct.Given as goal

abbrev pub invariant-loop-i : goal.invariant-loop-i
invariant-loop-i l = option_map (λ files. are_distinct files.0) (items_at file_at (l.count - l.i) l.rest)
    ≡ option_map (λ files. are_distinct files.0) (items_at file_at l.count l.bytes)
