pub mod Checked
pub mod Input
pub mod Laying
pub mod Updating
pub mod Points
pub mod Examples
