pub mod BookCallLaws
pub mod PlanCallLaws
