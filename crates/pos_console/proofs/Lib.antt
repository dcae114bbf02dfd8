pub mod ServiceLemmas
mod TotalsRunLemmas
