pub mod Words
pub mod Places
pub mod Report
pub mod Journals
pub mod Trace
