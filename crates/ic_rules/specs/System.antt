use Rattle.ic_term.specs.Configuration.{Configuration}
use Rattle.ic_rules.specs.RuleSet.{Rules}

-- An interaction system as plain data: rules, and a configuration over their symbols (Fernández and Mackie 1999,
-- section 2).
pub record SystemParts : Type 0 where
  pub rules : Rules
  pub config : Configuration
