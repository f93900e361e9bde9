pub mod FrontLemmas
mod ExitLemmas
