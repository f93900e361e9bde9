pub mod CoverLemmas
pub mod ScriptLemmas
