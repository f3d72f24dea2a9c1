pub mod Tree
pub mod Term
pub mod Configuration
pub mod ConfigFault
pub mod Symbol
pub mod lemmas
pub mod inner
