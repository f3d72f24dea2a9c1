-- For private functions. No public clause needs what stands here.
pub mod Told
pub mod Unwritten
pub mod Numbering
pub mod Rounds
