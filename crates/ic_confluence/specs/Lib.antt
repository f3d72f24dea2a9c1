pub mod Sameness
pub mod Kinds
pub mod Circle
pub mod Agents
pub mod lemmas
