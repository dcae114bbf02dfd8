pub mod Common
pub mod OutcomeLemmas
pub mod ChangeLemmas
pub mod FieldLemmas
pub mod ItemLemmas
pub mod DirectoryLemmas
pub mod GroupLemmas
pub mod OutlineLemmas
