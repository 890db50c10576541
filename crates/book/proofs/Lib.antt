pub mod ScheduleLaws
pub mod VisitLaws
pub mod WithinLaws
