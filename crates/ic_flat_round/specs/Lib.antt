pub mod Facing
pub mod InPlace
pub mod PlainWorks
pub mod inner
