pub mod OnKnown
pub mod OnReadingLists
pub mod OnReadingSites
