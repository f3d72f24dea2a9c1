-- The firing of one active equation as a work of its own.
use Rattle.std.specs.Prelude.{ℕ, ◌+◌, ◌==◌, List, [], ◌∷◌, Bool, false, ◌&&◌, Option, None, Some, slice_get, length, nat_le}
use Rattle.std.specs.Option.{option_map_or}
use Rattle.ic_term.specs.Tree.{Tree, name, agent, list_of, Pair}
use Rattle.ic_term.specs.declared.limits.TheConstants.{MAX_NEXT}
use Rattle.ic_rules.specs.Rule.{Rule}
use Rattle.ic_round.specs.Firing.{Active, active_pair, products_by, names_taken}

-- a work: the place of an active equation, the base of its fresh names, its rule and sides
pub record PlainWork : Type 0 where
  pub place : ℕ
  pub base : ℕ
  pub active : Active

-- the result of a work: the place, and the products that stand there
pub record PlainFired : Type 0 where
  pub place : ℕ
  pub products : List Pair

-- what a work gives: it depends on nothing else
abbrev pub result_of : List Rule → PlainWork → PlainFired
result_of rs w = record { place = w.place; products = products_by rs w.base w.active }

-- the work of an equation that is active
abbrev pub work_at : ℕ → ℕ → Active → PlainWork
work_at i base a = record { place = i; base = base; active = a }

-- The works of a list of equations: one for each active equation, the first at this place or later,
-- with its base (this project's choice).
abbrev pub works_from : List Rule → ℕ → ℕ → List Pair → List PlainWork
works_from rs i base [] = []
works_from rs i base (p ∷ ps) =
    option_map_or (λ a. work_at i base a ∷ works_from rs (i + 1) (base + names_taken rs p) ps)
    (active_pair rs p) (works_from rs (i + 1) (base + names_taken rs p) ps)

-- the term is an agent with this symbol and this number of arguments
abbrev pub is_agent_of : ℕ → ℕ → Tree → Bool
is_agent_of s n (name m) = false
is_agent_of s n (agent z ts) = z == s && length (list_of ts) == n

abbrev pub suits_rule : PlainWork → Option Rule → Bool
suits_rule w None = false
suits_rule w (Some r) =
    is_agent_of r.left (length r.left_args) w.active.left
    && is_agent_of r.right (length r.right_args) w.active.right
    && nat_le (w.base + r.names) MAX_NEXT

-- The rule of a work is there, its sides have the rule's symbols and arities, and its names stay
-- within the limit.
abbrev pub suits : List Rule → PlainWork → Bool
suits rs w = suits_rule w (slice_get rs w.active.rule)
