pub mod EntryCalls
pub mod FrameCalls
