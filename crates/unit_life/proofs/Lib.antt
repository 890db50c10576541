pub mod FrontLaws
pub mod HistoryLaws
pub mod LifeLaws
pub mod SilenceLaws
pub mod StateTripLaws
pub mod StepLaws
pub mod TableLaws
pub mod TrueTimeLaws
