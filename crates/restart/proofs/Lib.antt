pub mod Whole
pub mod Across
pub mod Examples
