pub mod Causes
pub mod Outcomes
pub mod Meaning
pub mod Tallying
pub mod Orders
pub mod Queues
pub mod Runs
