pub mod Answers
pub mod Calls
pub mod Courses
pub mod Disks
pub mod Follows
