pub mod Places
pub mod Marks
pub mod Spares
pub mod Numberings
pub mod Kept
pub mod Forgetting
pub mod InPlace
