-- What is proved of the definitions of specs/, for proofs of this crate and of those above.
pub mod TreeLaws
pub mod TermLaws
pub mod SymbolLaws
pub mod ConfigurationEq
pub mod Codings
