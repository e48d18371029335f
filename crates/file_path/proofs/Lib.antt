pub mod Upward
pub mod Placing
pub mod Writing
pub mod Replying
pub mod Chains
pub mod Examples
