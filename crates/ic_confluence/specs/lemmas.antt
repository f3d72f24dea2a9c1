-- Lemmas on the definitions of specs/, for proofs of this crate and of those above. They are
-- proved, so nothing in them is to be believed.
pub mod Counts
pub mod Puts
pub mod Equivalence
pub mod Replacing
pub mod Over
pub mod Actives
pub mod Swaps
