-- What is legal in a system and mostly a mistake, as pairs and rules tell it (this project's choice).
use Rattle.std.specs.Prelude.{◌≡◌, ℕ, ◌+◌, ◌==◌, List, [], ◌∷◌, ◌++◌, Bool, IsTrue, true, false, ◌&&◌, not, is_some, Some, if◌then◌else◌}
use Rattle.std.specs.List.{AllByRecursion, count_by, flat_map, list_all, list_any}
use Rattle.ic_term.specs.Tree.{Tree, name, agent, Pair}
use Rattle.ic_term.specs.Configuration.{Configuration, occurrences}
use Rattle.ic_rules.specs.Rule.{Rule}
use Rattle.ic_rules.specs.RuleSet.{Rules, has_pair}
use Rattle.ic_round.specs.Firing.{Active, active_pair, rule_of_sides}
use Rattle.ic_confluence.specs.Agents.{configuration_symbols, symbols}
use Rattle.ic_check.specs.declared.warnings.Warnings.{Warnings}

-- ---- pairs without a rule

-- the symbols of two agents that no rule takes apart: an equation of them stays for ever
abbrev pub ruleless : List Rule → Tree → Tree → List (ℕ × ℕ)
ruleless rs (agent a ts) (agent b us) =
    if is_some (rule_of_sides rs (agent a ts) (agent b us)) then [] else (a, b) ∷ []
ruleless rs _ _ = []

abbrev pub ruleless_pairs : List Rule → List Pair → List (ℕ × ℕ)
ruleless_pairs rs es = flat_map (λ e. ruleless rs e.left e.right) es

-- a term is an agent of this symbol
abbrev pub is_of : ℕ → Tree → Bool
is_of s (name n) = false
is_of s (agent t ts) = t == s

-- an equation is of agents of these two symbols, whatever their arguments are
abbrev pub faces : ℕ → ℕ → Pair → Bool
faces a b p = is_of a p.left && is_of b p.right

-- how many equations are of agents of these two symbols
abbrev pub facing : ℕ → ℕ → List Pair → ℕ
facing a b es = count_by (faces a b) es

-- no rule is of these two symbols
abbrev pub HasNoRule : List Rule → ℕ → ℕ → Type 0
HasNoRule rs a b = list_any (has_pair a b) rs ≡ false

-- this is one of these
abbrev pub Has : {X : Type 0} → List X → X → Type 0
Has xs x = (before : List _) × (after : List _) × (xs ≡ before ++ x ∷ after)

-- ---- rules that are never used: which symbols rules can bring into a configuration

-- the symbols of a rule's arguments: those that a use of the rule makes
abbrev pub made_symbols : Rule → List ℕ
made_symbols r = flat_map symbols r.left_args ++ flat_map symbols r.right_args

-- all of these symbols are among those
abbrev pub AllAmong : (ℕ → Bool) → List ℕ → Type 0
AllAmong among ss = AllByRecursion (λ s. IsTrue (among s)) ss

-- where both symbols of a rule are among them, so are those that it makes
abbrev pub IsKeptBy : (ℕ → Bool) → Rule → Type 0
IsKeptBy among r = IsTrue (among r.left) → IsTrue (among r.right) → AllAmong among (made_symbols r)

-- the symbols of the configuration are among these, and each rule keeps them so
pub record IsClosed (rs : List Rule) (c : Configuration) (among : ℕ → Bool) : Type 0 where
  pub begins : AllAmong among (configuration_symbols c)
  pub goes_on : AllByRecursion (IsKeptBy among) rs

-- The symbols that may come to stand in a configuration: the fewest that are closed. A rule both of
-- whose symbols are among them may be used, as far as this tells.
pub record IsReach (rs : List Rule) (c : Configuration) (among : ℕ → Bool) : Type 0 where
  pub closed : IsClosed rs c among
  pub least : (other : ℕ → Bool) → IsClosed rs c other → (s : ℕ) → IsTrue (among s)
      → IsTrue (other s)

-- an equation is active, by the rule at this place
abbrev pub IsTakenBy : List Rule → ℕ → Pair → Type 0
IsTakenBy rs i p = (a : Active) × (active_pair rs p ≡ Some a) × (a.rule ≡ i)

-- the place of a rule whose symbols never both stand in the configuration
abbrev pub unused : (ℕ → Bool) → ℕ → Rule → List ℕ
unused among i r = if among r.left && among r.right then [] else i ∷ []

-- the places of those of these rules, the first of which has this place
abbrev pub unused_rules : (ℕ → Bool) → ℕ → List Rule → List ℕ
unused_rules among i [] = []
unused_rules among i (r ∷ rs) = unused among i r ++ unused_rules among (i + 1) rs

-- ---- nets where no two agents can meet, as far as the sides of equations tell

-- whether a term is an agent
abbrev pub is_agent : Tree → Bool
is_agent (name n) = false
is_agent (agent s ts) = true

-- whether an equation joins two agents
abbrev pub joins_agents : Pair → Bool
joins_agents p = is_agent p.left && is_agent p.right

-- the name that a side is, if it is one
abbrev pub side_names : Tree → List ℕ
side_names (name n) = n ∷ []
side_names (agent s ts) = []

-- the names that are sides of an equation
abbrev pub pair_sides : Pair → List ℕ
pair_sides p = side_names p.left ++ side_names p.right

-- whether each of these names stands just once among all
abbrev pub are_once : (all : List ℕ) → List ℕ → Bool
are_once all ns = list_all (λ n. occurrences n all == 1) ns

-- Whether no two agents can meet: no equation joins two, and no name is a side twice, so that none can
-- come to join them.
abbrev pub are_apart : List Pair → Bool
are_apart es = not (list_any joins_agents es)
    && are_once (flat_map pair_sides es) (flat_map pair_sides es)

-- whether a rule of these may be used, where these symbols may come to stand
abbrev pub has_use : (ℕ → Bool) → List Rule → Bool
has_use among rs = list_any (λ r. among r.left && among r.right) rs

-- ----

-- These are the warnings of a system that speak of pairs and rules. The others are tried.
pub record AreWarnings (rs : Rules) (c : Configuration) (w : Warnings) : Type 0 where
  pub among : ℕ → Bool
  pub reach : IsReach rs.rules c among
  pub ruleless : w.ruleless.items ≡ ruleless_pairs rs.rules c.equations
  pub unused : w.unused.items ≡ unused_rules among 0 rs.rules
  pub none_meet : w.none_meet ≡ (has_use among rs.rules && are_apart c.equations)
