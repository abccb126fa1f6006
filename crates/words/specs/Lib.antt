pub mod Numerals
pub mod Lines
pub mod Words
pub mod Taken
