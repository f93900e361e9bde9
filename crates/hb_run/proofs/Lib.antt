pub mod PromiseLemmas
pub mod GoingLemmas
pub mod HistoryLemmas
