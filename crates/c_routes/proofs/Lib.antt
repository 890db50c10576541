pub mod RelayCallLaws
pub mod TableCallLaws
pub mod UpdateCallLaws
