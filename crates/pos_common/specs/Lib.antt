pub mod Checks
pub mod DueRequests
pub mod KeptControls
pub mod OwnCalls
