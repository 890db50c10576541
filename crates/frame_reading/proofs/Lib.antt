pub mod ReadLaws
pub mod ShowLaws
