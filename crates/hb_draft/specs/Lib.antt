pub mod Words
pub mod Unfinished
pub mod Laid
pub mod Whole
pub mod Kept
pub mod Put
pub mod Made
