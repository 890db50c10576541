pub mod Laws
pub mod PlanBytes
pub mod Plans
pub mod Schedules
