pub mod BookCalls
pub mod PlanCalls
