pub mod Names
pub mod Units
pub mod Words
pub mod Examples
