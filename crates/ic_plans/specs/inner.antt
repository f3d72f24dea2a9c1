-- For private functions. No public clause needs what is here.
pub mod Registers
pub mod Flattening
pub mod Entries
pub mod Given
pub mod Laying
