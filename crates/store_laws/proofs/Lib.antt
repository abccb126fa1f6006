pub mod ArrayKeeps
pub mod ReplayKeeps
pub mod AlteringKeeps
