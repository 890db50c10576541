pub mod Texts
pub mod Views
