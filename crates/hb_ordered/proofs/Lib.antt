mod FitsLemmas
pub mod AnswerLemmas
pub mod NamesLemmas
mod LaterLemmas
mod PartLemmas
mod MeaningLemmas
mod StopLemmas
pub mod AlongLemmas
mod OpenLemmas
mod NextLemmas
pub mod SameTurnLemmas
mod TakenLemmas
pub mod WalkLemmas
mod RealLemmas
mod FirstLemmas
mod ThenLemmas
pub mod OneLemmas
