pub mod Canonical
pub mod Deeds
pub mod Perform
pub mod Same
pub mod Calm
