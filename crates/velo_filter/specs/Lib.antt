pub mod Left
pub mod Stacks
pub mod Tables
pub mod Marks
pub mod Thinned
