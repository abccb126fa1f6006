pub mod Stubborn
pub mod QueueTable
