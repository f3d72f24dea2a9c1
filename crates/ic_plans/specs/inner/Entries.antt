-- For private functions: the plans of pairs of symbols, one after another.
use Rattle.std.specs.Prelude.{◌≡◌, ℕ, List, ◌++◌, Some, length, map, IsSome}
use Rattle.ic_rules.specs.Rule.{Rule}
use Rattle.ic_rules.specs.RuleSet.{Rules, rule_for}
use Rattle.ic_machine.specs.Plan.{Plans, ArePlans, number_of}
use Rattle.ic_meaning.specs.Plans.{IsOfRule}

-- how many arguments each symbol of a rule set has
abbrev pub arities_of : Rules → List ℕ
arities_of rs = map (λ s. s.arity) rs.symbols

-- Plans of a rule set so far: each stands for the rule of its pair. The numbers are those of the rules, by the places of
-- the plans.
pub record ArePlanned (rs : Rules) (numbers : List ℕ) (p : Plans) : Type 0 where
  pub arities : p.arities ≡ arities_of rs
  pub counted : length numbers ≡ length p.plans
  pub sound : ArePlans p
  pub entries : (a b i : ℕ) → number_of p a b ≡ Some i → IsOfRule rs numbers p (Some i) (rule_for rs.rules a b)

-- the symbols of a rule have plans, as they stand and turned round
abbrev pub HasPlans : Plans → Rule → Type 0
HasPlans p r = IsSome (number_of p r.left r.right) × IsSome (number_of p r.right r.left)

-- the second list begins with the first
pub record Continues {X : Type 0} (xs ys : List X) : Type 0 where
  pub more : List X
  pub is : ys ≡ xs ++ more
