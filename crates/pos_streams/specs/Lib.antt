pub mod Streams
pub mod Transfers
