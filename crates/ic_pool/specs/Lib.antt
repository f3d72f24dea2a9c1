pub mod Played
pub mod PoolFault
pub mod Workers
pub mod lemmas
