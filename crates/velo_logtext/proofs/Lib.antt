pub mod OnFindings
pub mod OnLaws
pub mod OnLines
pub mod OnNewlines
pub mod OnReaders
pub mod OnStreams
pub mod OnWindows
