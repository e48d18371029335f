pub mod Number
pub mod Check
pub mod Reply
pub mod Result
