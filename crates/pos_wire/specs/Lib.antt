pub mod Frames
pub mod Orders
pub mod Replies
pub mod ReplyLines
pub mod Settings
