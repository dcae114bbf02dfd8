pub mod Common
pub mod StreamLemmas
pub mod MemoryLemmas
