pub mod Held
pub mod Histories
pub mod Laws
pub mod Takeover
pub mod Witness
