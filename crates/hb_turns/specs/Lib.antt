pub mod Playing
pub mod Players
pub mod Collecting
