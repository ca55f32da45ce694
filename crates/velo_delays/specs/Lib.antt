pub mod Stands
pub mod Anew
pub mod Differing
pub mod Sources
pub mod Found
pub mod Deadlock
