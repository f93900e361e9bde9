pub mod Cells
pub mod Notes
