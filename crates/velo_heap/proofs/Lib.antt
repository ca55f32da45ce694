pub mod OnTables
pub mod OnMasks
pub mod OnLocks
pub mod OnAdmission
pub mod OnThreadStates
pub mod OnChanges
pub mod OnSameness
