-- Terms and equations that stand at places among words.
use Rattle.std.specs.Prelude.{◌≡◌, ℕ, ◌<◌, ◌≤◌, ◌*◌, List, [], ◌∷◌, length, drop, sum_by}
use Rattle.ic_term.specs.Tree.{Tree, name, Pair, nodes}
use Rattle.ic_term.specs.Configuration.{Configuration}
use Rattle.ic_flat.specs.declared.word.Word.{Word}
use Rattle.ic_flat.specs.Words.{forest}
use Rattle.ic_flat.specs.Flat.{pairs_of, configuration_words, sides}
use Rattle.ic_flat_rules.specs.declared.places.Sides.{Sides}

-- the first of terms, and the name 0 where there is none
abbrev pub first_of : List Tree → Tree
first_of [] = name 0
first_of (t ∷ ts) = t

-- the term that begins at a place
abbrev pub tree_at : List Word → ℕ → Tree
tree_at ws place = first_of (forest (drop place ws))

-- the equation of two sides
abbrev pub pair_at : List Word → Sides → Pair
pair_at ws s = record { left = tree_at ws s.left; right = tree_at ws s.right }

-- the equations from a place to the end
abbrev pub pairs_at : List Word → ℕ → List Pair
pairs_at ws place = pairs_of (forest (drop place ws))

-- the terms from a place to the end are an even number
abbrev pub AreInTwos : List Word → ℕ → Type 0
AreInTwos ws place = (count : ℕ) × (length (forest (drop place ws)) ≡ 2 * count)

-- a term is written from one place up to another
pub record IsTermAt (ws : List Word) (place end : ℕ) : Type 0 where
  pub before : place < end
  pub within : end ≤ length ws
  pub terms : forest (drop place ws) ≡ tree_at ws place ∷ forest (drop end ws)

-- the place after the interface of a configuration, where its equations begin
pub record IsEquationsPlace (c : Configuration) (place : ℕ) : Type 0 where
  pub within : place ≤ length (configuration_words c)
  pub equations : forest (drop place (configuration_words c)) ≡ sides c.equations
  pub nodes : place ≡ sum_by nodes c.interface

-- two sides, one after the other
pub record AreSides (ws : List Word) (s : Sides) : Type 0 where
  pub left : IsTermAt ws s.left s.right
  pub right : IsTermAt ws s.right s.end
