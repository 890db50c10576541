pub mod Copies
pub mod Forwards
pub mod Outcomes
