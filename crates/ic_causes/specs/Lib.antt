pub mod Locks
pub mod Causes
pub mod Passed
