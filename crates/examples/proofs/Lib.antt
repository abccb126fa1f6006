pub mod Shown
pub mod Piles
