pub mod ArrayMachine
pub mod ReplayMachine
pub mod AlteringMachine
