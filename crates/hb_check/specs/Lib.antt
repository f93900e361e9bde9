pub mod Asked
pub mod Checked
pub mod Checking
pub mod Looking
pub mod Rules
pub mod Runs
