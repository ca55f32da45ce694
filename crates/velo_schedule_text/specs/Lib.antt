pub mod File
pub mod Schedule
pub mod Short
pub mod Words
