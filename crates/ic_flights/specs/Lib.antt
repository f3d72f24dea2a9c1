pub mod Flight
pub mod Played
