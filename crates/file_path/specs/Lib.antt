pub mod Path
pub mod Steps
pub mod Chain
