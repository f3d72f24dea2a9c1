pub mod RuleBounds
pub mod RuleWriting
