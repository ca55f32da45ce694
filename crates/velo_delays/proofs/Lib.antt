pub mod OnAnew
pub mod OnFound
pub mod OnDeadlocks
