pub mod Characters
pub mod Examples
pub mod Ways
