pub mod Replies
pub mod Checking
pub mod Numbers
