pub mod Settling
pub mod NameSteps
pub mod Sides
pub mod Bindings
pub mod lemmas
