-- Which equations are active, and what firing all of them at once gives.
use Rattle.std.specs.Prelude.{ℕ, ◌+◌, List, [], ◌∷◌, ◌++◌, Bool, true, false, Option, None, Some, slice_get}
use Rattle.std.specs.Option.{option_map_or}
use Rattle.ic_term.specs.Tree.{Tree, name, agent, list_of, Pair}
use Rattle.ic_term.specs.Configuration.{Configuration}
use Rattle.ic_rules.specs.Rule.{Rule}
use Rattle.ic_rules.specs.RuleSet.{rule_for}
use Rattle.ic_round.specs.Instance.{inst}

-- An active equation: the place of its rule among the rules, and its sides, turned so that the left
-- symbol is the rule's left symbol.
pub record Active : Type 0 where
  pub rule : ℕ
  pub left : Tree
  pub right : Tree

abbrev pub oriented : Tree → Tree → Option (ℕ × Bool) → Option Active
oriented t u None = None
oriented t u (Some (i, false)) = Some (record { rule = i; left = t; right = u })
oriented t u (Some (i, true)) = Some (record { rule = i; left = u; right = t })

-- the rule of two sides, if both are agents and have one (Lafont 1990): its place, and whether they
-- are turned round
abbrev pub rule_of_sides : List Rule → Tree → Tree → Option (ℕ × Bool)
rule_of_sides rs (name n) u = None
rule_of_sides rs (agent a ts) (name n) = None
rule_of_sides rs (agent a ts) (agent b us) = rule_for rs a b

-- an equation is active where its sides have a rule
abbrev pub active_pair : List Rule → Pair → Option Active
active_pair rs p = oriented p.left p.right (rule_of_sides rs p.left p.right)

abbrev pub arguments : Tree → List Tree
arguments (name n) = []
arguments (agent s ts) = list_of ts

-- each argument of an agent against the rule's one, the argument on the left (this project's
-- choice)
abbrev pub against : List Tree → List Tree → List Pair
against (a ∷ ts) (t ∷ us) = record { left = a; right = t } ∷ against ts us
against [] us = []
against (a ∷ ts) [] = []

-- `A(a1,..,an)=B(b1,..,bm)` becomes `a1=t1,..,an=tn,b1=u1,..,bm=um` by a copy of the rule
-- `A(t1,..,tn)><B(u1,..,um)` (Lafont 1990; Fernández and Mackie 1999, interaction).
abbrev pub products : Rule → Tree → Tree → List Pair
products copy left right =
    against (arguments left) copy.left_args ++ against (arguments right) copy.right_args

-- the products of an active equation, by its rule with names from a base on; none if no rule stands
-- there
abbrev pub products_by : List Rule → ℕ → Active → List Pair
products_by rs base a =
    option_map_or (λ r. products (inst r base) a.left a.right) (slice_get rs a.rule) []

-- how many names the rule at a place has, or 0 without one
abbrev pub count_of : List Rule → ℕ → ℕ
count_of rs i = option_map_or (λ r. r.names) (slice_get rs i) 0

-- how many fresh names an equation takes when it fires
abbrev pub names_taken : List Rule → Pair → ℕ
names_taken rs p = option_map_or (λ a. count_of rs a.rule) (active_pair rs p) 0

-- an equation fired with names from a base on, if it is active
abbrev pub fired_pair : List Rule → ℕ → Pair → List Pair
fired_pair rs base p = option_map_or (products_by rs base) (active_pair rs p) (p ∷ [])

-- The equations with each active one fired: its products stand in its place, and the names of the
-- next one begin after its own (this project's choice).
abbrev pub fired_from : List Rule → ℕ → List Pair → List Pair
fired_from rs base [] = []
fired_from rs base (p ∷ ps) = fired_pair rs base p ++ fired_from rs (base + names_taken rs p) ps

-- the first number after the names that the equations take
abbrev pub next_after : List Rule → ℕ → List Pair → ℕ
next_after rs base [] = base
next_after rs base (p ∷ ps) = next_after rs (base + names_taken rs p) ps

-- a configuration with all its active equations fired
abbrev pub fired : List Rule → Configuration → Configuration
fired rs c = record {
  interface = c.interface;
  equations = fired_from rs c.next c.equations;
  next = next_after rs c.next c.equations;
}
