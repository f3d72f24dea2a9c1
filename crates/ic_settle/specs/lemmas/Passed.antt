-- What the pass over the equations leaves. What settling is doesn't rest on this.
use Rattle.std.specs.Prelude.{◌≡◌, ℕ, List, [], ◌∷◌, ◌++◌, Option, map, IsTrue}
use Rattle.std.specs.Option.{option_map, option_to_list}
use Rattle.ic_term.specs.Tree.{Tree, Pair}
use Rattle.ic_term.specs.Symbol.{Symbol, is_over}
use Rattle.ic_term.specs.Configuration.{Configuration, IsConfiguration, names_in}
use Rattle.ic_settle.specs.Settling.{Binding, settled}
use Rattle.ic_settle.specs.Sides.{bound_by}
use Rattle.ic_settle.specs.declared.applicability.Applicable.{Applicable}
use Rattle.ic_settle.specs.NameSteps.{NameStep, NameSteps}
use Rattle.ic_settle.specs.lemmas.Waiting.{put_each, put_each_pair, IsDelayed}

-- a configuration with bindings put in, and these equations kept
abbrev pub put_in : List Binding → Configuration → List Pair → Configuration
put_in bs c kept = record c {
  interface = map (put_each bs) c.interface;
  equations = map (put_each_pair bs) kept;
}

-- With all bindings put in, the kept equations and the interface are the settled configuration.
pub record IsPassed (c : Configuration) (kept : List Pair) (es : List (ℕ × Tree)) : Type 0 where
  pub bs : List Binding
  pub delayed : IsDelayed bs es (names_in c.interface kept)
  pub valid : IsConfiguration (put_in bs c kept)
  pub settled : put_in bs c kept ≡ settled c
  pub reached : NameSteps c (put_in bs c kept)
  pub ended : (d : Configuration) → ¬ NameStep (put_in bs c kept) d
  pub over : (ss : List Symbol) → IsTrue (is_over ss c) → IsTrue (is_over ss (put_in bs c kept))

-- what the chosen sides of equations bind, as the equations stand
abbrev pub bound_sides : List Pair → List (Option Applicable) → List Binding
bound_sides [] chosen = []
bound_sides (p ∷ ps) [] = []
bound_sides (p ∷ ps) (a ∷ chosen) =
    option_to_list (option_map (bound_by p) a) ++ bound_sides ps chosen
