pub mod Answers
pub mod Codes
pub mod Dump
pub mod Files
pub mod Json
pub mod Load
pub mod Salvage
pub mod Texts
