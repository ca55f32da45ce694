pub mod Contents
pub mod Steps
