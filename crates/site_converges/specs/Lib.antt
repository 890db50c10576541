pub mod Sites
pub mod Courses
pub mod RowRounds
pub mod Rounds
pub mod Laws
pub mod InC
pub mod Line
