pub mod Outcomes
pub mod SheetCalls
pub mod SheetLaws
