pub mod FreshLaws
pub mod StepLaws
pub mod TableHistoryLaws
pub mod TableRuleLaws
pub mod TableTimeLaws
