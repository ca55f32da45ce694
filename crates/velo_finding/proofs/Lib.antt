pub mod OnLists
pub mod OnWriter
pub mod OnLabels
pub mod OnEntries
