mod CommitLemmas
pub mod Common
pub mod DecisionLemmas
mod DraftLemmas
pub mod DiskFileLemmas
pub mod StandingLemmas
mod MigrationLemmas
pub mod CrashLemmas
pub mod RecoveryLemmas
pub mod RecordLemmas
