-- What is proved of the definitions of specs/, for proofs of this crate and of those above.
pub mod Answered
pub mod ByRounds
pub mod RoundsOn
