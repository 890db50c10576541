pub mod ClockLaws
pub mod CorrectionLaws
pub mod SignLaws
pub mod StepLaws
