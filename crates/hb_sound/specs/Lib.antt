pub mod Sound
pub mod Frames
pub mod Bodies
pub mod Scripts
pub mod Parts
pub mod Refusals
