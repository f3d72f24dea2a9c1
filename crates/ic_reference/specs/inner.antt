-- What only the contracts of private functions cite.
pub mod Placing
pub mod Slots
pub mod Orienting
pub mod Replacing
