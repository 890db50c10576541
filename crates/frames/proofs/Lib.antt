pub mod KindLaws
pub mod LayoutLaws
pub mod ListedLaws
pub mod ToldLaws
pub mod TripLaws
pub mod WholeLaws
