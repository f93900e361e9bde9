pub mod FaultLemmas
pub mod RunLemmas
mod TextLemmas
mod WorkLemmas
pub mod OneDueLemmas
pub mod OneReportLemmas
mod JournalLemmas
pub mod CollectedLemmas
pub mod DeriveLemmas
pub mod OneBundleLemmas
pub mod VerifyLemmas
mod TurnLemmas
pub mod CompleteLemmas
