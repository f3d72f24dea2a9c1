pub mod NumberLemmas
pub mod ListLemmas
pub mod WordLemmas
pub mod StateLemmas
pub mod WorkedLemmas
