pub mod Continuations
pub mod Calls
pub mod Mirror
pub mod Shown
