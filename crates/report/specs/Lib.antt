pub mod Shown
pub mod Cards
