pub mod AlikeLaws
pub mod EntryLaws
pub mod PageLaws
pub mod PlaceLaws
pub mod StandLaws
pub mod StoredLaws
pub mod WalkLaws
