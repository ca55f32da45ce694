pub mod Alarm
pub mod Certificate
pub mod Counted
pub mod Lines
pub mod Names
pub mod Report
pub mod Runs
