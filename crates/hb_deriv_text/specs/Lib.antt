pub mod Text
pub mod Reading
pub mod Reads
pub mod Written
pub mod Faults
pub mod Finds
