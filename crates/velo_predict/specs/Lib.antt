pub mod Predictions
pub mod Deadlocks
pub mod Feasible
pub mod Differences
pub mod Circles
pub mod Waits
pub mod Courses
pub mod Sources
