-- For private functions. No public clause needs what stands here.
pub mod Rows
