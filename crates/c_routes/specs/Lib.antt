pub mod RelayCalls
pub mod TableCalls
pub mod UpdateCalls
