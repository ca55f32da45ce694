pub mod OnBuffering
pub mod OnLines
pub mod OnReports
pub mod OnRuns
pub mod OnCertificates
