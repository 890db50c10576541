pub mod PlanByteLaws
pub mod PlanLaws
pub mod RegionLaws
pub mod SendingLaws
pub mod ToldLaws
