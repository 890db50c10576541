pub mod InCLaws
pub mod SheetCallLaws
