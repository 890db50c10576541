pub mod BookBytes
pub mod Trips
