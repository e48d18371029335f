pub mod Regions
pub mod Caller
pub mod Again
pub mod Tiling
