-- When a call may answer a fault, what the calls move, and what the objects in memory hold.
pub mod Causes
pub mod Moves
pub mod Calls
pub mod MemSource
pub mod MemSink
pub mod Real
