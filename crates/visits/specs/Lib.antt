pub mod Stores
pub mod Cards
