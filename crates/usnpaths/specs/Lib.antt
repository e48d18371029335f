pub mod Root
pub mod Rows
