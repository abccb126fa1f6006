pub mod Firsts
pub mod Rows
pub mod QueueSteps
pub mod QueueKeeps
pub mod Changes
pub mod Caught
pub mod QueuePromised
