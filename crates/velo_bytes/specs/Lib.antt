pub mod Device
pub mod Parsing
