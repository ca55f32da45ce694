pub mod Fault
pub mod Line
pub mod Pattern
pub mod Meeting
pub mod Names
pub mod Said
pub mod Answers
