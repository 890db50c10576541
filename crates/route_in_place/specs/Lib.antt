pub mod Changes
pub mod Judged
pub mod Lookups
pub mod Outcomes
