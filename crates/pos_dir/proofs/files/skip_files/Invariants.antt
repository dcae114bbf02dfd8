use Rattle.pos_dir.proofs.Common.{end_within, file_at, items_at, ◌-◌, ◌≡◌}
use Rattle.pos_dir.proofs.files.skip_files.Given as goal

abbrev pub invariant-loop : goal.invariant-loop
invariant-loop l = end_within l.room (items_at file_at (l.count - l.counter) l.rest)
    ≡ end_within l.fn.room (items_at file_at l.count l.bytes)
