-- One step of the calculus (Fernández and Mackie 1999), read either way round, and chains of steps.
use Rattle.std.specs.Prelude.{◌≡◌, ℕ, ◌+◌, List, ◌∷◌, ◌++◌, true, Some, length}
use Rattle.std.specs.List.{flat_map}
use Rattle.ic_term.specs.Tree.{Pair, names, pair_names}
use Rattle.ic_term.specs.Configuration.{Configuration}
use Rattle.ic_rules.specs.Rule.{Rule}
use Rattle.ic_settle.specs.Settling.{Binding, occurs, subst_in, Binds}
use Rattle.ic_round.specs.Firing.{Active, active_pair, products_by, count_of}

-- An equation stands at a place, with these before it and those after it.
pub record StandsAt (es : List Pair) (place : ℕ) (before : List Pair) (p : Pair)
    (after : List Pair) : Type 0 where
  pub counted : length before ≡ place
  pub parts : es ≡ before ++ p ∷ after

-- Interaction: an active equation is replaced by its products, whose names begin at `next`.
pub record Interaction (rs : List Rule) (c d : Configuration) (place : ℕ) : Type 0 where
  pub before : List Pair
  pub equation : Pair
  pub after : List Pair
  pub active : Active
  pub stands : StandsAt c.equations place before equation after
  pub has_rule : active_pair rs equation ≡ Some active
  pub result : d ≡ record {
    interface = c.interface;
    equations = before ++ (products_by rs c.next active ++ after);
    next = c.next + count_of rs active.rule;
  }

-- An equation of which one side is a name is removed, and its other side put for that name, which
-- occurs among these names of the other equations.
pub record NameStepAt (c d : Configuration) (place : ℕ) (among : List Pair → List ℕ) : Type 0 where
  pub before : List Pair
  pub equation : Pair
  pub after : List Pair
  pub bound : Binding
  pub stands : StandsAt c.equations place before equation after
  pub side : Binds equation bound
  pub elsewhere : occurs bound.name (among (before ++ after)) ≡ true
  pub result : d ≡ subst_in bound.name bound.term (record c { equations = before ++ after })

-- Indirection: the name occurs in another equation.
abbrev pub Indirection : (c d : Configuration) (place : ℕ) → Type 0
Indirection c d place = NameStepAt c d place (flat_map pair_names)

-- Collect: the name occurs in the interface.
abbrev pub Collect : (c d : Configuration) (place : ℕ) → Type 0
Collect c d place = NameStepAt c d place (λ others. flat_map names c.interface)

pub data Step (rs : List Rule) : Configuration → Configuration → Type 0 where
  interaction : (c d : Configuration) (place : ℕ) → Interaction rs c d place → Step rs c d
  indirection : (c d : Configuration) (place : ℕ) → Indirection c d place → Step rs c d
  collect : (c d : Configuration) (place : ℕ) → Collect c d place → Step rs c d

-- finitely many steps
pub data Steps (rs : List Rule) : Configuration → Configuration → Type 0 where
  no_steps : (c : Configuration) → Steps rs c c
  then_step : (c d e : Configuration) → Steps rs c d → Step rs d e → Steps rs c e
