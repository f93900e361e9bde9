pub mod PlayingLemmas
mod PlayerLemmas
mod OrderLemmas
mod GoneLemmas
mod FinishLemmas
mod KnownLemmas
pub mod RunLemmas
mod TagLemmas
mod ThroughLemmas
mod CollectingLemmas
mod FreeLemmas
