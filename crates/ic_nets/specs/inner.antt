-- What only contracts of private functions and proofs cite.
pub mod Hanging
pub mod ReadBack
pub mod Named
