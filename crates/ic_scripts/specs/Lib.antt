pub mod Telling
pub mod Reading
pub mod Attending
pub mod inner
