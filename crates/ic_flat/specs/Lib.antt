pub mod Words
pub mod Flat
pub mod lemmas
pub mod inner
