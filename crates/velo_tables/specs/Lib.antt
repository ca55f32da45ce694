pub mod Entry
pub mod Readers
pub mod Clocks
pub mod ClockRows
pub mod LastAccesses
pub mod Others
pub mod Cells
pub mod Recorded
