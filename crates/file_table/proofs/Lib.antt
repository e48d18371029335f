pub mod Rows
pub mod Rising
pub mod Judging
pub mod Places
pub mod Finding
