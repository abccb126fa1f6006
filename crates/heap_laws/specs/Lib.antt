pub mod Cells
pub mod HeapMachine
