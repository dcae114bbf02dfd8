pub mod Queue
pub mod QueueParts
pub mod Waiting
