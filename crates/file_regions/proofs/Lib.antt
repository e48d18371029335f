pub mod Writing
pub mod Caller
pub mod Checked
pub mod Tiling
pub mod Examples
pub mod Again
