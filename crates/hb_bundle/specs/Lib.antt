pub mod Bundle
pub mod Opening
pub mod Lines
pub mod Verdicts
pub mod Told
pub mod Verifies
