pub mod PreviewLemmas
