pub mod Places
pub mod Complete
pub mod OnLogs
