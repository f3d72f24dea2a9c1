pub mod PartLemmas
pub mod Crossings
pub mod Exact
pub mod HistoryLemmas
