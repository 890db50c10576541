pub mod SetLaws
pub mod CountLaws
pub mod LowestLaws
pub mod DropLaws
pub mod FewLaws
pub mod BitLaws
pub mod MaskLaws
pub mod TurnLaws
