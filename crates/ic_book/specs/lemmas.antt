-- Lemmas. A reader of the contracts needs none of it.
pub mod OneProof
pub mod Facts
pub mod Weights
pub mod Chains
