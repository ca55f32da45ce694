mod Rows
pub mod OnRanks
pub mod OnStacks
pub mod OnLeft
pub mod OnTurns
pub mod OnRestricted
pub mod OnPrefixesLeft
pub mod OnKept
pub mod OnTables
pub mod OnMarks
pub mod OnThinned
