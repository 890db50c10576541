pub mod Calls
pub mod Histories
pub mod Kinds
pub mod Laws
pub mod Outcomes
pub mod StateBytes
pub mod StateTrips
pub mod States
