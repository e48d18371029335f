pub mod Replies
pub mod Examples
