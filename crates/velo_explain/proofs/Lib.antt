pub mod OnEvidence
pub mod OnReasons
pub mod OnLatest
pub mod OnPairs
