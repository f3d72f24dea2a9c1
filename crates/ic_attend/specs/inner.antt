-- What only contracts of private functions cite.
pub mod Speech
pub mod Gathering
pub mod Crews
pub mod Lasts
