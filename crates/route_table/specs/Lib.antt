pub mod Left
pub mod Outcomes
pub mod Places
pub mod Rows
pub mod Tables
