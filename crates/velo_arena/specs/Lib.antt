pub mod Slots
pub mod Kept
pub mod Stamps
pub mod Heirs
