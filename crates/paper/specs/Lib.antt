pub mod Examples
pub mod Single
pub mod Story
pub mod Witnesses
