pub mod NoteLemmas
pub mod TurnLemmas
