pub mod Steps
pub mod Clauses
pub mod OrderFacts
pub mod Runs
pub mod Naming
