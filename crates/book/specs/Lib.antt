pub mod Books
pub mod Schedules
