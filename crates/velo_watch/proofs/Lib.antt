pub mod OnAlarms
pub mod OnEndless
mod OnFaults
mod OnMore
pub mod OnPieces
pub mod OnReading
pub mod OnRestWatches
mod OnRests
mod OnTelling
pub mod OnWatches
pub mod OnWholes
