pub mod Changes
pub mod Reports
