pub mod Writing
pub mod Entries
pub mod Forks
