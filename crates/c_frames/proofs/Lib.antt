pub mod EntryCallLaws
pub mod FrameCallLaws
