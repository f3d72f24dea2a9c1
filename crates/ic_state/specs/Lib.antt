pub mod Numbers
pub mod Words
pub mod State
pub mod Worked
