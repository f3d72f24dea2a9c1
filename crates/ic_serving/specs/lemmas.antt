-- What is proved of the definitions of specs/, for proofs of this crate and of those above.
pub mod Reaching
pub mod Leaving
pub mod Unkept
pub mod Making
pub mod Taken
