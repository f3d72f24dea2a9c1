-- For private functions. No public clause needs what stands here.
pub mod Expanding
pub mod Writing
pub mod Reading
pub mod Mending
pub mod Parted
