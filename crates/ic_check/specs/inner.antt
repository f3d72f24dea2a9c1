-- What only the contracts of private functions cite.
pub mod Growing
pub mod Tallies
pub mod Verdicts
