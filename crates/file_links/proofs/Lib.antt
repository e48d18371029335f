pub mod Tables
pub mod Choosing
