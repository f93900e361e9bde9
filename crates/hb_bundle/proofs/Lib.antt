pub mod ListLemmas
pub mod OpeningLemmas
pub mod EndLemmas
pub mod FaultLemmas
pub mod CutLemmas
pub mod VerdictLemmas
