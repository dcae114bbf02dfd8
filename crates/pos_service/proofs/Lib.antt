pub mod StripLemmas
pub mod PieceLemmas
pub mod NameLemmas
