pub mod Judge
pub mod Judgement
pub mod Faults
pub mod Events
pub mod Derivation
pub mod Walk
pub mod Programs
