pub mod Joins
pub mod Responses
