pub mod BookByteLaws
pub mod SizeLaws
pub mod TripLaws
