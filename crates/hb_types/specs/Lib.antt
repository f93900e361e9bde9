pub mod Types
pub mod Variables
