pub mod SizeLaws
pub mod TableByteLaws
pub mod TableTripLaws
