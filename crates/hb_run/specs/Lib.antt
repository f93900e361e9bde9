pub mod History
pub mod Headline
pub mod Going
