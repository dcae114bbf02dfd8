pub mod OrderLemmas
pub mod WorkLemmas
