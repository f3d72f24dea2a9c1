-- What is proved of the definitions of specs/, for proofs of this crate and of those above.
pub mod RuleLaws
pub mod RenamingLaws
pub mod NumberingLaws
pub mod FitLaws
pub mod FindLaws
pub mod Spared
pub mod Codings
