pub mod Enumerate
pub mod Steps
pub mod Follow
