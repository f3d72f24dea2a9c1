pub mod Held
pub mod Opening
pub mod Faults
pub mod Numbers
pub mod Keeper
pub mod Opened
pub mod Unused
pub mod lemmas
