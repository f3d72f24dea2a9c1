pub mod Firings
pub mod Generations
pub mod Figures
pub mod Waiting
