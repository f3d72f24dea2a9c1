pub mod Reading
pub mod lemmas
pub mod inner
