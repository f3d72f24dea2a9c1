pub mod Faults
pub mod Streams
pub mod Stuck
pub mod lemmas
