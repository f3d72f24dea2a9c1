-- What settling is: the order of its steps is this project's choice, each step is indirection or
-- collect of Fernández and Mackie 1999.
use Rattle.std.specs.Prelude.{◌≡◌, ◌⊎◌, ℕ, zero, suc, ◌==◌, List, [], ◌∷◌, ◌++◌, Bool, Option, None, Some, length, map, if◌then◌else◌}
use Rattle.std.specs.List.{list_any}
use Rattle.std.specs.Option.{option_map, option_map_or, option_or}
use Rattle.ic_term.specs.Tree.{Tree, name, agent, Trees, no_trees, more_trees, Pair}
use Rattle.ic_term.specs.Configuration.{Configuration, names_in}

-- a term put for a name
abbrev mutual
  pub subst : ℕ → Tree → Tree → Tree
  subst x u (name n) = if n == x then u else name n
  subst x u (agent s ts) = agent s (subst_all x u ts)

  pub subst_all : ℕ → Tree → Trees → Trees
  subst_all x u no_trees = no_trees
  subst_all x u (more_trees t ts) = more_trees (subst x u t) (subst_all x u ts)

abbrev pub subst_pair : ℕ → Tree → Pair → Pair
subst_pair x u p = record { left = subst x u p.left; right = subst x u p.right }

-- a term put for a name in a whole configuration
abbrev pub subst_in : ℕ → Tree → Configuration → Configuration
subst_in x u c = record c {
  interface = map (subst x u) c.interface;
  equations = map (subst_pair x u) c.equations;
}

-- a name, and the term to be put for it
pub record Binding : Type 0 where
  pub name : ℕ
  pub term : Tree

-- one side of an equation is this name, the other one this term
abbrev pub Binds : Pair → Binding → Type 0
Binds p b =
    (p ≡ record { left = name b.name; right = b.term })
    ⊎ (p ≡ record { left = b.term; right = name b.name })

-- whether a name occurs in a list of names
abbrev pub occurs : ℕ → List ℕ → Bool
occurs x ns = list_any (λ n. n == x) ns

-- A side is applicable where it is a name that occurs outside of its equation: it binds that name to
-- the other side.
abbrev pub side_binding : List ℕ → Tree → Tree → Option Binding
side_binding outside (name x) other =
    if occurs x outside then Some (record { name = x; term = other }) else None
side_binding outside (agent s ts) other = None

-- the binding of an equation with these names outside of it: the left side is tried first
abbrev pub binding : List ℕ → Pair → Option Binding
binding outside p =
    option_or (side_binding outside p.left p.right) (side_binding outside p.right p.left)

-- an equation with an applicable side, the equations before it and those after it
pub record Choice : Type 0 where
  pub before : List Pair
  pub after : List Pair
  pub bound : Binding

-- the choice at this equation, or else a later one
abbrev pub choice_or : List Pair → List Pair → Option Binding → Option Choice → Option Choice
choice_or before after (Some b) _ = Some (record { before = before; after = after; bound = b })
choice_or before after None later = later

-- the first equation with an applicable side, after those before
abbrev pub first_choice : List Tree → List Pair → List Pair → Option Choice
first_choice ts before [] = None
first_choice ts before (p ∷ after) =
    choice_or before after (binding (names_in ts (before ++ after)) p)
    (first_choice ts (before ++ p ∷ []) after)

-- The chosen equation is removed, and its other side put for the name in the whole configuration.
abbrev pub applied : Configuration → Choice → Configuration
applied c choice =
    subst_in choice.bound.name choice.bound.term
    (record c { equations = choice.before ++ choice.after })

-- one step at the first equation with an applicable side, if there is one
abbrev pub settling_step : Configuration → Option Configuration
settling_step c = option_map (applied c) (first_choice c.interface [] c.equations)

-- at most so many steps
abbrev pub settled_in : ℕ → Configuration → Configuration
settled_in zero c = c
settled_in (suc n) c = option_map_or (settled_in n) (settling_step c) c

-- A configuration settled: steps as long as there is an applicable side. Each removes an equation, so there are
-- at most as many as equations.
abbrev pub settled : Configuration → Configuration
settled c = settled_in (length c.equations) c
