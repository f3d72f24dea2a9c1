pub mod ThirdLemmas
pub mod FaultLemmas
pub mod DealingLemmas
pub mod NameLemmas
pub mod TakenLemmas
