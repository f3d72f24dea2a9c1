-- What is proved of the definitions for the crates above. A reader of the contracts needs none of it.
pub mod CourseLaws
pub mod LivesLaws
pub mod Refused
