pub mod GroupLemmas
pub mod RecordLemmas
pub mod DamageLemmas
pub mod HeadLemmas
pub mod LineLemmas
