pub mod LineLemmas
pub mod TurnLemmas
pub mod ServingLemmas
pub mod TakingLemmas
pub mod ScriptLemmas
pub mod ScriptLaws
