pub mod Stores
pub mod Cards
pub mod Sections
