pub mod Bytes
pub mod Spelling
pub mod Literal
pub mod Tokens
pub mod Fault
pub mod Text
pub mod Place
pub mod Sizes
