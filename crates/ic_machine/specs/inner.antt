-- For private functions. No public clause needs what stands here.
pub mod Linking
pub mod Sweeping
pub mod Firing
pub mod Pairs
pub mod Queue
pub mod PairIndex
pub mod Tables
pub mod Machine
pub mod Borders
pub mod Moving
pub mod Unpacking
pub mod Places
pub mod Making
pub mod Building
