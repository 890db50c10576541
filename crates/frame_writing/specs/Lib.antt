pub mod Handed
pub mod Sizes
pub mod Taking
pub mod Typed
