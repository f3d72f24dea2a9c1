-- What the tokens of a net that was read back say.
use Rattle.std.specs.Prelude.{◌≡◌, ℕ, ◌+◌, ◌<◌, ◌≤◌, ◌==◌, List, [], ◌∷◌, length, map, sum_by, slice_index_or, take, drop, if◌then◌else◌, Some, slice_get}
use Rattle.std.specs.List.{flat_map, AllByRecursion}
use Rattle.ic_term.specs.Tree.{Tree, name, agent, names, Pair}
use Rattle.ic_term.specs.Configuration.{Configuration, configured, configuration_names, occurrences}
use Rattle.ic_arena.specs.declared.word.Word.{Word}
use Rattle.ic_arena.specs.declared.word.TheConstants.{NAME, GIVEN}
use Rattle.ic_arena.specs.Word.{count}
use Rattle.ic_arena.specs.Piece.{Piece, uses}
use Rattle.ic_machine.specs.declared.equation.Equation.{Equation}
use Rattle.ic_flat.specs.declared.word.Word.{Word as FlatWord}
use Rattle.ic_flat.specs.declared.word.Word.TheVariants.{Name as FlatName, Agent as FlatAgent}
use Rattle.ic_flat.specs.Words.{forest}
use Rattle.ic_flat.specs.Flat.{pairs_of}
use Rattle.ic_meaning.specs.Words.{Numbers}
use Rattle.ic_readback.specs.declared.token.Token.{Token}
use Rattle.ic_readback.specs.declared.token.Token.TheVariants.{Name, Agent}

-- the number of the name that a word stands for
abbrev pub number_of : Numbers → Word → ℕ
number_of n w = if w.tag == GIVEN then slice_index_or n.given w.index 0 else n.of_place w

-- a token as a word in prefix order
abbrev pub flat_word : Numbers → Token → FlatWord
flat_word n (Name w) = FlatName (number_of n w)
flat_word n (Agent s) = FlatAgent s (slice_index_or n.arities s 0)

abbrev pub flat_words : Numbers → List Token → List FlatWord
flat_words n ts = map (flat_word n) ts

-- the configuration that tokens write, so many of their terms in its interface, the others two by two as equations
abbrev pub configuration_read : Numbers → List Token → ℕ → Configuration
configuration_read n ts terms = configured
    (take terms (forest (flat_words n ts)))
    (pairs_of (drop terms (forest (flat_words n ts))))

-- each given name that words or pieces name has a number
abbrev pub AreGiven : List ℕ → List Word → List Piece → Type 0
AreGiven given ws ps = (w : Word) → w.tag ≡ GIVEN → 1 ≤ count w ws + sum_by (uses w) ps → w.index < length given

-- the sides of equations, the left one of each before the right one
abbrev pub sides_of : List Equation → List Word
sides_of es = flat_map (λ e. e.left ∷ e.right ∷ []) es

-- what a term that is read for a word begins with, but for a name: a given name, or an agent of the same symbol
abbrev pub HeadIs : Numbers → Word → Tree → Type 0
HeadIs n w (name x) = (w.tag ≡ GIVEN) × (slice_get n.given w.index ≡ Some x)
HeadIs n w (agent s ts) = w.tag ≡ s + 1

-- terms begin with one for each of these words, in order
abbrev pub BeginAs : Numbers → List Word → List Tree → Type 0
BeginAs n [] ts = Unit {0}
BeginAs n (w ∷ ws) [] = ⊥
BeginAs n (w ∷ ws) (t ∷ ts) = (¬ (w.tag ≡ NAME) → HeadIs n w t) × BeginAs n ws ts

-- An equation of the name of a place with a term. This name occurs nowhere else in the configuration.
pub record IsCircle (n : Numbers) (c : Configuration) (p : Pair) : Type 0 where
  pub place : Word
  pub left : p.left ≡ name (n.of_place place)
  pub alone : occurrences (n.of_place place) (configuration_names c)
      ≡ 1 + occurrences (n.of_place place) (names p.right)

-- all equations after so many are circles
abbrev pub AreCirclesAfter : Numbers → ℕ → Configuration → Type 0
AreCirclesAfter n k c = AllByRecursion (IsCircle n c) (drop k c.equations)
