pub mod Laws
pub mod Seen
pub mod SheetBytes
pub mod Sheets
pub mod Verdicts
