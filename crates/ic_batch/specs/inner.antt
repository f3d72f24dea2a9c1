-- What only contracts of private functions cite.
pub mod Staying
pub mod Taking
