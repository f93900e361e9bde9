pub mod CallsLemmas
pub mod CoverLemmas
