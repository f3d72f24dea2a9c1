-- What is proved of the definitions of specs/, for proofs of this crate and of those above.
pub mod JobLaws
pub mod StateLaws
pub mod Codings
