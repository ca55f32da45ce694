pub mod OnLeads
pub mod Chains
pub mod OnConfigs
pub mod OnRefusals
pub mod OnSeats
pub mod OnTurns
pub mod Places
pub mod Vecs
