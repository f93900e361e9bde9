pub mod KeptLemmas
pub mod HeldLemmas
pub mod CacheLemmas
