pub mod Auditing
pub mod Predicting
