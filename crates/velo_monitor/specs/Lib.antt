pub mod Collection
pub mod Watched
pub mod Codes
pub mod Steps
pub mod Heirs
pub mod Changed
pub mod Answers
