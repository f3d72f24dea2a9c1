-- For private functions. One equation of a list at work: fired in its place, or removed with its
-- name bound.
use Rattle.std.specs.Prelude.{◌≡◌, ℕ, ◌+◌, List, [], ◌++◌, true, Some, take, drop, slice_get, IsTrue}
use Rattle.std.specs.Option.{option_map_or}
use Rattle.ic_term.specs.Tree.{Pair}
use Rattle.ic_term.specs.Configuration.{Configuration, names_in}
use Rattle.ic_rules.specs.Rule.{Rule}
use Rattle.ic_settle.specs.Settling.{occurs, Binds}
use Rattle.ic_round.specs.Firing.{Active, active_pair, fired_pair}
use Rattle.ic_round.specs.Works.{suits, work_at}
use Rattle.ic_settle.specs.Sides.{bound_by}
use Rattle.ic_reference.specs.SingleSteps.{others, bound_at}
use Rattle.ic_settle.specs.declared.applicability.Applicable.{Applicable}

-- the equations with the one at a place fired, if it is active
abbrev pub fired_at : List Rule → ℕ → List Pair → ℕ → List Pair
fired_at rs base es place =
    take place es
    ++ (option_map_or (fired_pair rs base) (slice_get es place) [] ++ drop (place + 1) es)

-- the work of an equation suits, if it is active
abbrev pub IsReady : List Rule → ℕ → ℕ → Pair → Type 0
IsReady rs base place p =
    (a : Active) → active_pair rs p ≡ Some a → IsTrue (suits rs (work_at place base a))

-- a side of the equation at a place is a name that occurs elsewhere
pub record Applies (c : Configuration) (place : ℕ) (a : Applicable) : Type 0 where
  pub equation : Pair
  pub there : slice_get c.equations place ≡ Some equation
  pub side : Binds equation (bound_by equation a)
  pub outside : occurs a.name (names_in c.interface (others c place)) ≡ true

-- the equation at a place removed, and its other side put for the name
abbrev pub applied_at : Configuration → ℕ → Applicable → Pair → Configuration
applied_at c place a p = bound_at c place (bound_by p a)
