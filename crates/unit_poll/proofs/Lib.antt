pub mod LoopLaws
pub mod PlaceLaws
pub mod PollLaws
pub mod SiftLaws
pub mod TripLaws
