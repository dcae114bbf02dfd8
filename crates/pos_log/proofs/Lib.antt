pub mod Common
mod AppendLemmas
pub mod DecisionLemmas
pub mod RenewalLemmas
pub mod RecordLemmas
pub mod LayoutLemmas
pub mod ReadLemmas
mod SpanLemmas
pub mod UniquenessLemmas
