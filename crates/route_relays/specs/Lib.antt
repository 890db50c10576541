pub mod Laws
pub mod Outcomes
pub mod Relays
pub mod Ways
