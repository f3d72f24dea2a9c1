pub mod Crossings
pub mod Agreeing
