pub mod Common
pub mod TableLemmas
pub mod ListLemmas
pub mod DocumentLemmas
pub mod SoundLemmas
pub mod PlaceLemmas
pub mod RegistryLemmas
