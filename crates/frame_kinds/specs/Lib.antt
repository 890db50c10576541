pub mod Fields
pub mod Reading
pub mod Shape
pub mod Writing
