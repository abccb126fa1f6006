pub mod Tables
pub mod CheckedQueue
pub mod QueueRuns
pub mod QueuePromise
