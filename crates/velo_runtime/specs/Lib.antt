pub mod Rooms
pub mod Steps
pub mod Waits
pub mod Leads
pub mod Turns
pub mod Seats
pub mod Places
