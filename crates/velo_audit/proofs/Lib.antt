pub mod OnAnswers
pub mod OnAudit
mod OnBlame
pub mod OnClean
pub mod OnCount
pub mod OnCuts
pub mod OnFewNodes
mod OnMarks
mod OnOpen
pub mod OnPieceWitness
pub mod OnPieces
mod OnReach
pub mod OnRounds
pub mod OnShifted
mod OnTally
pub mod OnTold
pub mod OnUnique
pub mod OnVerdicts
pub mod OnWitness
