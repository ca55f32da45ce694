pub mod OnSlots
pub mod OnFree
pub mod OnStamps
