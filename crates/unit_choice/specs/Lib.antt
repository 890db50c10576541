pub mod Choices
pub mod Laws
pub mod Outcomes
