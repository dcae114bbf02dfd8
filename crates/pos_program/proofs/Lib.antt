mod LeftLemmas
pub mod MigrationLemmas
mod MirroredLemmas
pub mod ParseLemmas
mod ReadLemmas
