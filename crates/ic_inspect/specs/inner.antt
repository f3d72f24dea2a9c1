-- What only contracts of private functions and proofs cite.
pub mod Fronts
pub mod Held
pub mod Twice
