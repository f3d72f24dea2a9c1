-- When a plan stands for a rule, and when for a configuration.
use Rattle.std.specs.Prelude.{◌≡◌, ◌⊎◌, ℕ, ◌+◌, ◌-◌, ◌<◌, ◌≤◌, ◌==◌, List, [], ◌∷◌, ◌++◌, Bool, true, false, not, Option, None, Some, Contains, length, map, slice_get, slice_index_or, count_by, if◌then◌else◌, nat_lt, IsPermutation}
use Rattle.std.specs.List.{filter, AllByRecursion}
use Rattle.ic_term.specs.Tree.{Tree, name, agent, Trees, no_trees, more_trees, trees_of, Pair}
use Rattle.ic_term.specs.Configuration.{Configuration, configuration_names, occurrences}
use Rattle.ic_rules.specs.Rule.{Rule, swapped}
use Rattle.ic_rules.specs.RuleSet.{Rules, rule_for}
use Rattle.ic_machine.specs.declared.plan.Link.{Link}
use Rattle.ic_machine.specs.Plan.{Made, Planned, Plans, number_of, operands_of}

-- a term with a term put for each name
abbrev mutual
  pub filled : (ℕ → Tree) → Tree → Tree
  filled f (name x) = f x
  filled f (agent s ts) = agent s (filled_all f ts)

  pub filled_all : (ℕ → Tree) → Trees → Trees
  filled_all f no_trees = no_trees
  filled_all f (more_trees t ts) = more_trees (filled f t) (filled_all f ts)

-- what registers hold, with this term in one of them
abbrev pub held_with : ℕ → Tree → (ℕ → Tree) → ℕ → Tree
held_with k t held j = if j == k then t else held j

-- What registers hold once these agents are made, the first of which goes to this register, and each is a term of what
-- the registers hold by then.
abbrev pub held_made : ℕ → List Made → (ℕ → Tree) → ℕ → Tree
held_made k [] held = held
held_made k (m ∷ ms) held =
    held_made (k + 1) ms (held_with k (agent m.symbol (trees_of (map held m.operands))) held)

abbrev pub linked_terms : (ℕ → Tree) → Link → Pair
linked_terms held l = record { left = held l.left; right = held l.right }

-- the first register of an agent that a plan makes of so many arguments
abbrev pub first_made : List ℕ → ℕ → Planned → ℕ
first_made arities arguments p = length arities + arguments + p.names

-- the equations of a plan, its agents put together, where its first agent goes to this register
abbrev pub equations_made : ℕ → Planned → (ℕ → Tree) → List Pair
equations_made k p held = map (linked_terms (held_made k p.made held)) p.links

-- each agent without arguments is in the register of its symbol
abbrev pub HoldConstants : ℕ → (ℕ → Tree) → Type 0
HoldConstants count held = (s : ℕ) → s < count → held s ≡ agent s no_trees

-- an argument of a rule, and the register of the one of the agent that fires
pub record Argument : Type 0 where
  pub register : ℕ
  pub term : Tree

abbrev pub arguments_from : ℕ → List Tree → List Argument
arguments_from k [] = []
arguments_from k (t ∷ ts) = record { register = k; term = t } ∷ arguments_from (k + 1) ts

abbrev pub rule_arguments : Rule → List Tree
rule_arguments r = r.left_args ++ r.right_args

-- the arguments of a rule, the left ones first, with their registers after those of so many constants
abbrev pub arguments_of : ℕ → Rule → List Argument
arguments_of count r = arguments_from count (rule_arguments r)

abbrev pub is_name_in : (ℕ → ℕ) → ℕ → Tree → Bool
is_name_in registers k (name x) = registers x == k
is_name_in registers k (agent s ts) = false

-- whether the argument is a name that is read from its own register
abbrev pub is_read : (ℕ → ℕ) → Argument → Bool
is_read registers a = is_name_in registers a.register a.term

abbrev pub is_matched : (ℕ → ℕ) → Argument → Bool
is_matched registers a = not (is_read registers a)

-- an argument against the rule's one, whose names are read from these terms
abbrev pub matched : (ℕ → Tree) → (ℕ → Tree) → Argument → Pair
matched held named a = record { left = held a.register; right = filled named a.term }

-- A name is read from the register of a fresh name, of which there are so many from one on, or from that of an argument
-- that is this name.
abbrev pub HasRegister : List Argument → (ℕ → ℕ) → ℕ → ℕ → ℕ → Type 0
HasRegister arguments registers fresh count x =
    ((fresh ≤ registers x) × (registers x < fresh + count))
    ⊎ ((i : ℕ) × (slice_get arguments i
    ≡ Some (record { register = registers x; term = name x })))

-- A plan stands for a rule, for symbols with these arities. Each name of the rule is read from a register, each fresh name
-- is read as one that is no argument by itself, and each agent that is made is used once. And whatever the registers hold, the equations of the plan are
-- those of the arguments with the rule's, except for a name against itself.
pub record StandsFor (arities : List ℕ) (r : Rule) (p : Planned) : Type 0 where
  pub registers : ℕ → ℕ
  pub read : (x : ℕ) → x < r.names
      → HasRegister (arguments_of (length arities) r) registers
      (length arities + length (rule_arguments r)) p.names x
  pub apart : (x y : ℕ) → x < r.names → y < r.names → registers x ≡ registers y → x ≡ y
  pub fresh : (k : ℕ) → k < p.names
      → (x : ℕ) × (x < r.names) × (registers x ≡ length arities + length (rule_arguments r) + k)
      × ¬ Contains (rule_arguments r) (name x)
  pub used : (k : ℕ) → k < length p.made
      → count_by (λ m. m == first_made arities (length (rule_arguments r)) p + k) (operands_of p) ≡ 1
  pub equations : (held : ℕ → Tree) → HoldConstants (length arities) held
      → IsPermutation
      (map (matched held (λ x. held (registers x)))
      (filter (is_matched registers) (arguments_of (length arities) r)))
      (equations_made (first_made arities (length (rule_arguments r)) p) p held)

-- a rule as two agents meet it
abbrev pub met_as : Bool → Rule → Rule
met_as false r = r
met_as true r = swapped r

-- The plan at this place stands for the rule at that place, and this is written down.
pub record IsPlanOf (rs : Rules) (numbers : List ℕ) (p : Plans) (place rule : ℕ) (turned : Bool) : Type 0 where
  pub number : slice_get numbers place ≡ Some rule
  pub of_rule : Rule
  pub rule_there : slice_get rs.rules rule ≡ Some of_rule
  pub plan : Planned
  pub plan_there : slice_get p.plans place ≡ Some plan
  pub stands : StandsFor p.arities (met_as turned of_rule) plan

-- there is a plan exactly where there is a rule
abbrev pub IsOfRule : Rules → List ℕ → Plans → Option ℕ → Option (ℕ × Bool) → Type 0
IsOfRule rs numbers p None None = Unit {0}
IsOfRule rs numbers p None (Some found) = ⊥
IsOfRule rs numbers p (Some place) None = ⊥
IsOfRule rs numbers p (Some place) (Some (rule, turned)) = IsPlanOf rs numbers p place rule turned

-- Plans are those of a rule set: each pair of symbols has a plan exactly where it has a rule, and the plan stands for the
-- rule. The numbers are those of the rules, by the places of the plans.
pub record ArePlansOf (rs : Rules) (numbers : List ℕ) (p : Plans) : Type 0 where
  pub arities : p.arities ≡ map (λ s. s.arity) rs.symbols
  pub each : (a b : ℕ) → a < length p.arities → b < length p.arities
      → IsOfRule rs numbers p (number_of p a b) (rule_for rs.rules a b)

-- the numbers of the rules of plans, by the places of the plans
abbrev pub rule_number : List ℕ → ℕ → ℕ
rule_number numbers place = slice_index_or numbers place 0

-- what the registers of constants and of names hold
abbrev pub named_terms : ℕ → List ℕ → ℕ → Tree
named_terms count names k =
    if nat_lt k count then agent k no_trees else name (slice_index_or names (k - count) 0)

-- A plan stands for a configuration, with the words of these registers as its interface: its arguments are the names
-- that were given, the fresh names are the others, which occur in it, and the agents put together are its terms.
pub record StandsForNet (arities given : List ℕ) (c : Configuration) (p : Planned)
    (interface : List ℕ) : Type 0 where
  pub names : List ℕ
  pub count : length names ≡ p.names
  pub below : AllByRecursion (λ x. x < c.next) (given ++ names)
  pub once : (x : ℕ) → occurrences x (given ++ names) ≤ 1
  pub occur : AllByRecursion (λ x. 1 ≤ occurrences x (configuration_names c)) names
  pub within : AllByRecursion (λ k. k < first_made arities (length given) p + length p.made) interface
  pub constant : AllByRecursion (λ k. k < length arities → slice_get arities k ≡ Some 0) interface
  pub used : (k : ℕ) → k < length p.made
      → count_by (λ m. m == first_made arities (length given) p + k) (operands_of p ++ interface) ≡ 1
  pub interface_is : map
      (held_made (first_made arities (length given) p) p.made
      (named_terms (length arities) (given ++ names))) interface ≡ c.interface
  pub equations : IsPermutation
      (equations_made (first_made arities (length given) p) p
      (named_terms (length arities) (given ++ names))) c.equations
