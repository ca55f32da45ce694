pub mod OnAnswers
mod OnChecks
pub mod OnDelivery
pub mod OnFiles
pub mod OnFormats
pub mod OnInputs
pub mod OnReading
pub mod OnSaving
pub mod OnVerdicts
