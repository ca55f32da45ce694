pub mod OnLines
pub mod OnLists
pub mod OnNamings
pub mod OnPatterns
pub mod OnReading
pub mod OnTexts
pub mod OnWriting
