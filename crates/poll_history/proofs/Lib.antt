pub mod HeldLaws
pub mod HistoryLaws
pub mod TakeoverLaws
pub mod WinLaws
pub mod WitnessLaws
