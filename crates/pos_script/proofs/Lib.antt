pub mod PieceLemmas
pub mod LineLemmas
pub mod BufferLemmas
pub mod WriteLemmas
pub mod ReceiptLemmas
pub mod HexLemmas
