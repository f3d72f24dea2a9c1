-- What is reached from a configuration, as one keeps it who takes steps in any order and holds the
-- net in pieces.
use Rattle.std.specs.Prelude.{◌≡◌, ℕ, List, [], ◌∷◌}
use Rattle.ic_term.specs.Configuration.{Configuration}
use Rattle.ic_rules.specs.Rule.{Rule}
use Rattle.ic_confluence.specs.Kinds.{Kind, naming, firing, Chain}
use Rattle.ic_reaching.specs.OneNet.{OneNet}

-- the rules by which steps of these kinds fire, in order
abbrev pub rules_fired : List Kind → List ℕ
rules_fired [] = []
rules_fired (naming ∷ kinds) = rules_fired kinds
rules_fired (firing i ∷ kinds) = i ∷ rules_fired kinds

-- A configuration is reached from another one by interactions of these rules, in this order, where
-- some chain of steps with these interactions leads to an end that is one net with it.
pub record Reaches (rs : List Rule) (c d : Configuration) (fired : List ℕ) : Type 0 where
  pub kinds : List Kind
  pub end : Configuration
  pub chain : Chain rs kinds c end
  pub interactions : rules_fired kinds ≡ fired
  pub net : OneNet end d
