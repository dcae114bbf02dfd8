pub mod Fuse
pub mod Keeps
pub mod Kept
pub mod Memory
pub mod Stamps
pub mod State
pub mod Unkept
pub mod Within
