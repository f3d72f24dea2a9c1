-- For private functions. No public clause needs what is here.
pub mod Stacks
pub mod Testing
