pub mod Common
pub mod ByteLemmas
pub mod CallLemmas
pub mod EmptyBodyLemmas
pub mod MomentLemmas
pub mod SameDiskLemmas
pub mod SpoilLemmas
mod StampLemmas
pub mod RangeLemmas
mod WriteLemmas
