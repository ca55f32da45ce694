pub mod Tally
pub mod Views
pub mod Shares
pub mod Book
pub mod Logs
