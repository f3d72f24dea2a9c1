-- Name steps: indirection and collect of Fernández and Mackie (1999) as one relation, without a
-- place.
use Rattle.std.specs.Prelude.{◌≡◌, List, ◌∷◌, ◌++◌, true}
use Rattle.ic_term.specs.Tree.{Pair}
use Rattle.ic_term.specs.Configuration.{Configuration, names_in}
use Rattle.ic_settle.specs.Settling.{Binding, Binds, occurs, subst_in}

-- An equation of which one side is a name that occurs in another equation (indirection) or in the
-- interface (collect) is removed, and its other side put for that name.
pub record NameStep (c d : Configuration) : Type 0 where
  pub before : List Pair
  pub equation : Pair
  pub after : List Pair
  pub bound : Binding
  pub place : c.equations ≡ before ++ equation ∷ after
  pub side : Binds equation bound
  pub outside : occurs bound.name (names_in c.interface (before ++ after)) ≡ true
  pub result : d ≡ subst_in bound.name bound.term (record c { equations = before ++ after })

-- finitely many such steps
pub data NameSteps : Configuration → Configuration → Type 0 where
  no_step : (c : Configuration) → NameSteps c c
  one_more : (c d e : Configuration) → NameSteps c d → NameStep d e → NameSteps c e
