use Rattle.std.specs.Prelude.{◌≡◌, ℕ, ◌+◌, ◌*◌, ◌≤◌, List, [], ◌∷◌, ◌++◌, length, take, drop}
use Rattle.std.specs.List.{flat_map}
use Rattle.ic_term.specs.Tree.{Tree, Pair}
use Rattle.ic_term.specs.Configuration.{Configuration, IsConfiguration, IsWide}
use Rattle.ic_flat.specs.declared.word.Word.{Word}
use Rattle.ic_flat.specs.Words.{forest, IsWhole, tree_words}

-- terms two by two, as equations
abbrev pub pairs_of : List Tree → List Pair
pairs_of [] = []
pairs_of (t ∷ []) = []
pairs_of (t ∷ u ∷ ts) = record { left = t; right = u } ∷ pairs_of ts

-- the configuration that words write, so many of their terms in its interface, the others two by two
abbrev pub configuration_of : List Word → ℕ → ℕ → Configuration
configuration_of ws terms next = record {
  interface = take terms (forest ws);
  equations = pairs_of (drop terms (forest ws));
  next = next;
}

-- the sides of equations in the order of the text
abbrev pub sides : List Pair → List Tree
sides es = flat_map (λ e. e.left ∷ e.right ∷ []) es

-- the words of a configuration in the order of the text, the interface before the equations
abbrev pub configuration_words : Configuration → List Word
configuration_words c = flat_map tree_words (c.interface ++ sides c.equations)

-- the place after so many terms of words
pub record IsAfterTerms (ws : List Word) (terms place : ℕ) : Type 0 where
  pub within : place ≤ length ws
  pub rest : forest (drop place ws) ≡ drop terms (forest ws)

-- What the words of a configuration keep, with so many terms in its interface and so many equations.
pub record IsFlat (ws : List Word) (terms equations next : ℕ) : Type 0 where
  pub whole : IsWhole ws
  pub counted : length (forest ws) ≡ terms + 2 * equations
  pub sound : IsConfiguration (configuration_of ws terms next)

-- What the words of a wide configuration keep.
pub record IsWideFlat (ws : List Word) (terms equations next : ℕ) : Type 0 where
  pub whole : IsWhole ws
  pub counted : length (forest ws) ≡ terms + 2 * equations
  pub sound : IsWide (configuration_of ws terms next)
