-- What is proved of the definitions of specs/, for proofs of this crate and of those above.
pub mod Occurring
pub mod Spare
pub mod ToldNames
pub mod RenamedWords
pub mod Renumbered
