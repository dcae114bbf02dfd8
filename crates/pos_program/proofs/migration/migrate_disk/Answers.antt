use Rattle.pos_program.proofs.MigrationLemmas.{migrated_moves, moved_counts, moved_rest}
use Rattle.pos_program.proofs.migration.migrate_disk.Goals as goal

pub returns-clause-moves : goal.returns-clause-moves
returns-clause-moves g c = λ honest.
    let mid = c.recover.new.self in
    let end = c.migrate-outcome.new.self in
    rw c.into_disk-2.ensures.disk (migrated_moves mid.state
    (rw c.new-store.ensures at c.in_default.ensures) end c.migrate-outcome.ensures c.into_disk-2.ensures.at_rest honest)

pub returns-clause-rest : goal.returns-clause-rest
returns-clause-rest g c = λ honest. rw c.into_disk-2.ensures.disk
    (moved_rest (rw c.new-store.ensures at c.in_default.ensures) c.migrate-outcome.ensures honest)

pub returns-clause-counts : goal.returns-clause-counts
returns-clause-counts g c = λ honest. rw c.into_disk-2.ensures.disk
    (moved_counts (rw c.new-store.ensures at c.in_default.ensures) c.migrate-outcome.ensures honest)
