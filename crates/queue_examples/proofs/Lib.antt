pub mod QueueShown
pub mod QueuePiles
