pub mod ClockCalls
pub mod FollowCalls
pub mod StateCalls
