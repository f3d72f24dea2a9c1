pub mod Nets
pub mod Draws
pub mod Likeness
pub mod inner
