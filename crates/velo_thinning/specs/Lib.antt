pub mod Counting
pub mod Finding
pub mod Races
pub mod Reading
pub mod Repeating
pub mod Sweep
pub mod Texts
pub mod Thinning
