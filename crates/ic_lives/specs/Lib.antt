pub mod Past
pub mod Headline
pub mod Looks
pub mod Histories
pub mod lemmas
