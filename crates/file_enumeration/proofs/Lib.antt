pub mod Ordering
pub mod Selecting
pub mod Finding
pub mod Filling
pub mod Replying
pub mod Following
pub mod Examples
