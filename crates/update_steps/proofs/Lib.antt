pub mod Posting
pub mod Reading
