pub mod Declarations
pub mod Desks
