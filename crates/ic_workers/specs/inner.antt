-- For private functions. No public clause needs what stands here.
pub mod HandsOn
pub mod Keeping
pub mod Sent
