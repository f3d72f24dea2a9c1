-- What a front of bytes is, as it is read. Inner: private functions cite it.
use Rattle.std.specs.Prelude.{◌≡◌, ◌≢◌, ℕ, ◌+◌, ◌≤◌, List, ◌++◌, length, sum_by, IsTrue}
use Rattle.std.specs.List.{flat_map, AllByRecursion}
use Rattle.ic_term.specs.Tree.{Tree, nodes}
use Rattle.ic_term.specs.Symbol.{Symbol, is_over}
use Rattle.ic_term.specs.Configuration.{Configuration, IsConfiguration}
use Rattle.ic_rules.specs.RuleSet.{Rules, AreServed, IsRuleSet}
use Rattle.ic_jobs.specs.Job.{JobParts}
use Rattle.ic_codec.specs.Terms.{tree_bytes}
use Rattle.ic_codec.specs.inner.Forms.{HasBytes}
use Rattle.ic_codec.specs.Rules.{rules_bytes}

-- The bytes begin with those of a term of at most so many nodes; this many are left, and this rest.
pub record BeginsWithTree (ss : List Symbol) (budget : ℕ) (bytes : List ℕ) (t : Tree) (left : ℕ)
    (rest : List ℕ) : Type 0 where
  pub parts : bytes ≡ tree_bytes t ++ rest
  pub has_bytes : HasBytes ss t
  pub counted : left + nodes t ≡ budget

-- The bytes begin with no term of at most so many nodes.
abbrev pub BeginsWithNoTree : List Symbol → ℕ → List ℕ → Type 0
BeginsWithNoTree ss budget bytes =
    (t : Tree) (rest : List ℕ) → HasBytes ss t → nodes t ≤ budget → bytes ≢ tree_bytes t ++ rest

-- The same of so many terms, one after the other.
pub record BeginsWithTrees (ss : List Symbol) (count budget : ℕ) (bytes : List ℕ) (ts : List Tree)
    (left : ℕ) (rest : List ℕ) : Type 0 where
  pub parts : bytes ≡ flat_map tree_bytes ts ++ rest
  pub has_bytes : AllByRecursion (HasBytes ss) ts
  pub many : length ts ≡ count
  pub counted : left + sum_by nodes ts ≡ budget

abbrev pub BeginsWithNoTrees : List Symbol → ℕ → ℕ → List ℕ → Type 0
BeginsWithNoTrees ss count budget bytes =
    (ts : List Tree) (rest : List ℕ) → AllByRecursion (HasBytes ss) ts → length ts ≡ count
    → sum_by nodes ts ≤ budget → bytes ≢ flat_map tree_bytes ts ++ rest

module _ {X : Type 0} where
  -- The bytes begin with those of a value.
  pub record BeginsWith (V : X → Type 0) (spell : X → List ℕ) (bytes : List ℕ) (x : X)
      (rest : List ℕ) : Type 0 where
    pub parts : bytes ≡ spell x ++ rest
    pub valid : V x

  -- They begin with those of no value.
  abbrev pub BeginsWithNone : (X → Type 0) → (X → List ℕ) → List ℕ → Type 0
  BeginsWithNone V spell bytes = (x : X) (rest : List ℕ) → V x → bytes ≢ spell x ++ rest

  -- They begin with those of a value of at most this size; so much of it is left, and this rest.
  pub record BeginsWithOne (V : X → Type 0) (spell : X → List ℕ) (size : X → ℕ) (budget : ℕ)
      (bytes : List ℕ) (x : X) (left : ℕ) (rest : List ℕ) : Type 0 where
    pub parts : bytes ≡ spell x ++ rest
    pub valid : V x
    pub counted : left + size x ≡ budget

  abbrev pub BeginsWithNoOne : (X → Type 0) → (X → List ℕ) → (X → ℕ) → ℕ → List ℕ → Type 0
  BeginsWithNoOne V spell size budget bytes =
      (x : X) (rest : List ℕ) → V x → size x ≤ budget → bytes ≢ spell x ++ rest

  -- The same of so many values, one after the other.
  pub record BeginsWithMany (V : X → Type 0) (spell : X → List ℕ) (size : X → ℕ) (count budget : ℕ)
      (bytes : List ℕ) (xs : List X) (left : ℕ) (rest : List ℕ) : Type 0 where
    pub parts : bytes ≡ flat_map spell xs ++ rest
    pub each : AllByRecursion V xs
    pub many : length xs ≡ count
    pub counted : left + sum_by size xs ≡ budget

  abbrev pub BeginsWithNoMany : (X → Type 0) → (X → List ℕ) → (X → ℕ) → ℕ → ℕ → List ℕ → Type 0
  BeginsWithNoMany V spell size count budget bytes =
      (xs : List X) (rest : List ℕ) → AllByRecursion V xs → length xs ≡ count
      → sum_by size xs ≤ budget → bytes ≢ flat_map spell xs ++ rest

-- jobs aren't counted together
abbrev pub uncounted : JobParts → ℕ
uncounted j = 0

-- A rule set over these symbols, which is served.
pub record IsRuleSetOver (ss : List Symbol) (set : Rules) : Type 0 where
  pub rules : IsRuleSet set
  pub served : AreServed set
  pub over : set.symbols ≡ ss

abbrev pub set_bytes : Rules → List ℕ
set_bytes set = rules_bytes set.rules

-- A configuration over these symbols, with this `next`.
pub record IsConfigurationOver (ss : List Symbol) (next : ℕ) (c : Configuration) : Type 0 where
  pub config : IsConfiguration c
  pub over : IsTrue (is_over ss c)
  pub same_next : c.next ≡ next
