pub mod BestLaws
pub mod OrderLaws
