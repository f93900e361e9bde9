pub mod CommandLine
pub mod Given
pub mod Numbers
pub mod Orders
pub mod Jobs
