pub mod Calls
pub mod Log
pub mod Reading
pub mod Demand
