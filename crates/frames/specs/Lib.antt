pub mod Frames
pub mod Layout
pub mod Listed
pub mod Told
pub mod Trips
