-- For private functions: what the figures of a net come from, modulo 2^64.
use Rattle.std.specs.Prelude.{◌≡◌, ℕ, ◌+◌, ◌*◌, ◌^◌, ◌%◌, ◌<◌, List, [], ◌∷◌, Some, length, slice_get}
use Rattle.ic_generations.specs.Figures.{amount, amount_made, amount_spent, arity_of}
use Rattle.ic_meaning.specs.Plans.{rule_number}
use Rattle.ic_rules.specs.RuleSet.{Rules}
use Rattle.ic_rules.specs.System.{SystemParts}
use Rattle.ic_in_place.specs.Amounts.{by_counts}
use Rattle.ic_by_rounds.specs.declared.amounts.Amounts.{Amounts}
use Rattle.ic_by_rounds.specs.declared.amounts.Origins.{Origins}

-- each agent amounts to one
abbrev pub one_each : ℕ → ℕ
one_each s = 1

-- the same number modulo 2^64
abbrev pub Agree : ℕ → ℕ → Type 0
Agree a b = a % 2 ^ 64 ≡ b % 2 ^ 64

-- so often each of these numbers, all together
abbrev pub products : (times each : List ℕ) → ℕ
products [] ns = 0
products (t ∷ ts) [] = 0
products (t ∷ ts) (n ∷ ns) = t * n + products ts ns

-- what the rule at a place makes, less what it spends
pub record IsChange (rs : Rules) (rule : ℕ) (change : Amounts) : Type 0 where
  pub arities : Agree (change.arities + amount_spent (arity_of rs.symbols) rs.rules rule)
      (amount_made (arity_of rs.symbols) rs.rules rule)
  pub agents : Agree (change.agents + amount_spent one_each rs.rules rule)
      (amount_made one_each rs.rules rule)

-- there is a change for each number, that of the rule with this number
pub record AreChanges (rs : Rules) (numbers : List ℕ) (changes : List Amounts) : Type 0 where
  pub many : length changes ≡ length numbers
  pub each : (k : ℕ) (change : Amounts) → slice_get changes k ≡ Some change
      → IsChange rs (rule_number numbers k) change

-- where the figures of a system's net come from, by plans of rules with these numbers
pub record AreOrigins (s : SystemParts) (numbers : List ℕ) (o : Origins) : Type 0 where
  pub terms : o.terms ≡ length s.config.interface
  pub arities : o.begun.arities ≡ amount (arity_of s.rules.symbols) s.config
  pub agents : o.begun.agents ≡ amount one_each s.config
  pub changes : AreChanges s.rules numbers o.changes.items

-- These are the nodes and the names of a net with so many equations left, whose plans have fired so often.
pub record Tells (s : SystemParts) (numbers : List ℕ) (equations : ℕ) (fired : List ℕ)
    (nodes names : ℕ) : Type 0 where
  pub nodes_fit : nodes < 2 ^ 64
  pub names_fit : names < 2 ^ 64
  pub nodes_are : Agree
      (nodes + by_counts (amount_spent (arity_of s.rules.symbols) s.rules.rules) numbers fired 0)
      (length s.config.interface + 2 * equations + (amount (arity_of s.rules.symbols) s.config
      + by_counts (amount_made (arity_of s.rules.symbols) s.rules.rules) numbers fired 0))
  pub names_are : Agree
      (names + (amount one_each s.config
      + by_counts (amount_made one_each s.rules.rules) numbers fired 0))
      (nodes + by_counts (amount_spent one_each s.rules.rules) numbers fired 0)
