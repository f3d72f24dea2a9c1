pub mod Standing
pub mod RuleWords
pub mod lemmas
