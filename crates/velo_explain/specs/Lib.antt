pub mod Spans
pub mod Evidence
pub mod Latest
pub mod Pairs
pub mod Count
