pub mod Weighs
pub mod Puts
pub mod Matches
