pub mod Damages
pub mod Descriptions
pub mod Texts
pub mod Words
