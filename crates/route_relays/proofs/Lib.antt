pub mod AlikeLaws
pub mod CopyLaws
pub mod RelayLaws
