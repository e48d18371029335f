pub mod Update
pub mod Service
