pub mod Below
pub mod MapLemmas
