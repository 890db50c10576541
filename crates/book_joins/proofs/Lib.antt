pub mod AnswerLaws
pub mod GrantLaws
pub mod ResponseLaws
