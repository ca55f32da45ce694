pub mod Escaped
pub mod Waits
