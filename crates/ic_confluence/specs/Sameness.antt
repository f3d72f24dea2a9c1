-- When two configurations are the same net: names and the order of equations only say how its
-- agents are wired, so that one net has many configurations.
use Rattle.std.specs.Prelude.{◌≡◌, ℕ, ◌≤◌, List, [], ◌∷◌, map}
use Rattle.ic_term.specs.Tree.{Tree, name, names, Pair}
use Rattle.ic_term.specs.Configuration.{Configuration, configuration_names, occurrences}
use Rattle.ic_rules.specs.Renaming.{renamed}
use Rattle.ic_settle.specs.Settling.{subst}

-- an equation read the other way round
abbrev pub turned : Pair → Pair
turned p = record { left = p.right; right = p.left }

-- A circle is an equation of a name with a term that holds this name. It may be cut at any place:
-- `x=A(B(x))` and `x=B(A(x))` are one circle.
pub record Rotated (p q : Pair) : Type 0 where
  pub cut : ℕ
  pub inner : Tree
  pub outer : Tree
  pub once_inner : occurrences cut (names inner) ≡ 1
  pub once_outer : occurrences cut (names outer) ≡ 1
  pub given : p ≡ record { left = name cut; right = subst cut inner outer }
  pub result : q ≡ record { left = name cut; right = subst cut outer inner }

-- Two equations are alike where turning round and cutting the circle elsewhere lead from one to the
-- other.
pub data Alike : Pair → Pair → Type 0 where
  itself : (p : Pair) → Alike p p
  exchanged : (p : Pair) → Alike p (turned p)
  rotated : (p q : Pair) → Rotated p q → Alike p q
  in_turn : (p q r : Pair) → Alike p q → Alike q r → Alike p r

-- One list has the equations of the other in some order, each as it stands or as one alike.
pub data Rearranged : List Pair → List Pair → Type 0 where
  nothing : Rearranged [] []
  kept : (p q : Pair) (es fs : List Pair) → Alike p q → Rearranged es fs
      → Rearranged (p ∷ es) (q ∷ fs)
  swapped : (p q : Pair) (es : List Pair) → Rearranged (p ∷ q ∷ es) (q ∷ p ∷ es)
  one_by_one : (es fs gs : List Pair) → Rearranged es fs → Rearranged fs gs → Rearranged es gs

abbrev pub renamed_pair : (ℕ → ℕ) → Pair → Pair
renamed_pair f p = record { left = renamed f p.left; right = renamed f p.right }

-- a configuration with each name turned into another
abbrev pub renamed_in : (ℕ → ℕ) → Configuration → Configuration
renamed_in f c = record c {
  interface = map (renamed f) c.interface;
  equations = map (renamed_pair f) c.equations;
}

-- One configuration is the other with its names turned into others one-to-one. A name that occurs
-- once is free and stays; so do the names that aren't taken yet.
pub record Renames (c d : Configuration) : Type 0 where
  pub to : ℕ → ℕ
  pub from : ℕ → ℕ
  pub there_and_back : (n : ℕ) → from (to n) ≡ n
  pub back_and_there : (n : ℕ) → to (from n) ≡ n
  pub free : (n : ℕ) → occurrences n (configuration_names c) ≡ 1 → to n ≡ n
  pub fresh : (n : ℕ) → c.next ≤ n → to n ≡ n
  pub result : d ≡ renamed_in to c

-- One configuration is the other with its equations rearranged.
pub record Rearranges (c d : Configuration) : Type 0 where
  pub equations : Rearranged c.equations d.equations
  pub result : d ≡ record c { equations = d.equations }

-- Two configurations are the same net where renaming and rearranging lead from one to the other.
pub data Same : Configuration → Configuration → Type 0 where
  renaming : (c d : Configuration) → Renames c d → Same c d
  rearranging : (c d : Configuration) → Rearranges c d → Same c d
  through : (c d e : Configuration) → Same c d → Same d e → Same c e
