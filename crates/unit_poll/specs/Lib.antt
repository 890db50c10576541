pub mod Outcomes
pub mod Places
pub mod PollBytes
pub mod Polls
pub mod Voters
