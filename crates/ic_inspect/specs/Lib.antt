-- What a reader of the public contracts must believe, and `inner`, which is for private functions and proofs.
pub mod Seeing
pub mod Slots
pub mod Moments
pub mod inner
