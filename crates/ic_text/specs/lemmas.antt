-- Lemmas on the definitions of specs/, for proofs of this crate and of those above. They are
-- proved, so nothing in them is to be believed.
pub mod ReadOnce
pub mod WordRuns
pub mod NameLemmas
pub mod NameTexts
pub mod TableLemmas
pub mod SymbolOrder
pub mod WrittenBack
pub mod Separated
pub mod WrittenTokens
