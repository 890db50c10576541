pub mod MeetLaws
pub mod WalkLaws
