pub mod RequestCallLaws
