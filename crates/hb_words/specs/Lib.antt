pub mod Layout
pub mod Words
pub mod Steps
pub mod Kinds
pub mod Tries
pub mod Seats
