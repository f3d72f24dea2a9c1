pub mod FiringLemmas
pub mod WorkLemmas
