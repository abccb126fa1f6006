pub mod Mix
pub mod Checked
pub mod History
pub mod Runs
pub mod Promise
