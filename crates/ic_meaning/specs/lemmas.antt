-- Lemmas on the definitions of specs/, for proofs of this crate and of those above. They are
-- proved, so nothing in them is to be believed.
pub mod Terms
pub mod Ruleless
pub mod Orders
pub mod Rooms
