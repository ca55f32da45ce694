pub mod AsBox
mod OnVerdicts
mod OnPieces
mod OnJoined
mod OnTexts
