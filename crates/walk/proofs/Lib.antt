pub mod Walk
pub mod Begin
pub mod Lend
pub mod Update
pub mod First
pub mod Third
pub mod Ways
pub mod Entries
