pub mod Figures
pub mod Wiped
