pub mod TableCalls
pub mod TableLaws
