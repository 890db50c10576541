pub mod ChangeLaws
pub mod FindLaws
pub mod JudgedLaws
pub mod KeepLaws
