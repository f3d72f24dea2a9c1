pub mod WorkLists
pub mod Sizes
pub mod Dealing
pub mod Answers
pub mod Matching
pub mod Crews
pub mod lemmas
pub mod inner
