pub mod Restart
pub mod Across
