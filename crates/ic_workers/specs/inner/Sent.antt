-- For private functions: what a part sent to another one.
use Rattle.std.specs.Prelude.{◌≡◌, ℕ, ◌+◌, ◌<◌, ◌≤◌, ◌==◌, List, [], ◌∷◌, ◌++◌, length, map, count_by, slice_index_or, sum_by, IsPermutation}
use Rattle.std.specs.List.{AllByRecursion}
use Rattle.ic_term.specs.Configuration.{Configuration}
use Rattle.ic_rules.specs.RuleSet.{Rules}
use Rattle.ic_arena.specs.declared.word.Word.{Word}
use Rattle.ic_arena.specs.Word.{name_word}
use Rattle.ic_arena.specs.Piece.{Piece, waits}
use Rattle.ic_machine.specs.declared.equation.Equation.{Equation}
use Rattle.ic_machine.specs.Moving.{CutEnd, Side, Spells, GivesAll, IsIdle, end_word, side_of, sides_of, times}
use Rattle.ic_machine.specs.Net.{Net, equated_of, pieces}
use Rattle.ic_machine.specs.Plan.{Plans}
use Rattle.ic_machine.specs.Steps.{Steps}
use Rattle.ic_meaning.specs.Nets.{holds}
use Rattle.ic_meaning.specs.Plans.{rule_number}
use Rattle.ic_in_place.specs.Holding.{Holds}
use Rattle.ic_workers.specs.Parts.{Part}

-- A part has its number, its interface and its symbols.
pub record SameBut (old new : Part) : Type 0 where
  pub number : new.number ≡ old.number
  pub interface : new.net.interface ≡ old.net.interface
  pub same_arities : new.net.arities ≡ old.net.arities

-- a part counts what it counted
pub record SameCounts (old new : Part) : Type 0 where
  pub interactions : new.net.interactions ≡ old.net.interactions
  pub counts : new.net.counts ≡ old.net.counts

-- A part took what words spell. It was put in, each place once, and linked.
pub record Took (arities : List ℕ) (words : List Word) (old new : Part) : Type 0 where
  pub number : new.number ≡ old.number
  pub interface : new.net.interface ≡ old.net.interface
  pub same_arities : new.net.arities ≡ old.net.arities
  pub equations : List Equation
  pub places : List Piece
  pub spells : Spells arities (record { places = places; ends = new.borders.ends })
      (side_of old.net old.borders) (sides_of equations) words
  pub once : (w : Word) → sum_by (holds w) places ≤ 1
  pub linked : (p : Plans) → Steps p []
      (map equated_of equations
      ++ (map equated_of old.net.pending ++ (map equated_of old.net.aside ++ places))) (pieces new.net)

-- A part gave equations: what hangs below them was spelled.
pub record Gave (arities : List ℕ) (es : List Equation) (words : List Word) (old new : Part)
    : Type 0 where
  pub same : SameBut old new
  pub pending : old.net.pending ≡ es ++ new.net.pending
  pub aside : new.net.aside ≡ old.net.aside
  pub spells : Spells arities (side_of old.net old.borders) (side_of new.net new.borders)
      (sides_of es) words

-- A part shipped the equation of a cut with the word that waited for it.
pub record Shipped (arities : List ℕ) (words : List Word) (old new : Part) : Type 0 where
  pub same : SameBut old new
  pub pending : new.net.pending ≡ old.net.pending
  pub aside : new.net.aside ≡ old.net.aside
  pub end : CutEnd
  pub word : Word
  pub middle : Side
  pub taken : IsPermutation old.net.places (waits (end_word end) word ∷ middle.places)
  pub cut : IsPermutation old.borders.ends (end ∷ middle.ends)
  pub more : List Word
  pub spelled : words ≡ name_word end.cut ∷ more
  pub spells : Spells arities middle (side_of new.net new.borders) (word ∷ []) more

-- A part gave all: what it had was spelled, and what is left are names for which nothing waits. No name is an end of two cuts.
pub record GaveAll (arities : List ℕ) (words : List Word) (old new : Part) : Type 0 where
  pub number : new.number ≡ old.number
  pub interface : old.net.interface ≡ []
  pub gives : GivesAll arities (old.net.pending ++ old.net.aside) (side_of old.net old.borders)
      (side_of new.net new.borders) [] words
  pub idle : AllByRecursion IsIdle new.net.places
  pub once : (x : ℕ) → times x (map (λ e. e.name) new.borders.ends) ≤ 1

-- one part counts what two did
pub record CountsAlso (b a d : Part) : Type 0 where
  pub interactions : d.net.interactions ≡ b.net.interactions + a.net.interactions
  pub counts : (i : ℕ) → slice_index_or d.net.counts i 0
      ≡ slice_index_or b.net.counts i 0 + slice_index_or a.net.counts i 0
  pub plans : length d.net.counts ≡ length b.net.counts

-- A machine holds what is reached from the configuration by the rules of plans that fired, and has counted these.
pub record HasAll (rs : Rules) (numbers : List ℕ) (p : Plans) (c : Configuration)
    (given : List ℕ) (m : Net) : Type 0 where
  pub fired : List ℕ
  pub holds : Holds rs p c given (map (rule_number numbers) fired) m
  pub made : m.interactions ≡ length fired
  pub known : AllByRecursion (λ i. i < length p.plans) fired
  pub counts : (i : ℕ) → i < length p.plans
      → slice_index_or m.counts i 0 ≡ count_by (λ j. j == i) fired
  pub counted : length m.counts ≡ length p.plans
