-- For private functions: the registers of the names of a configuration.
use Rattle.std.specs.Prelude.{◌≡◌, ◌==◌, ◌↔◌, ◌⊎◌, ℕ, ◌+◌, ◌≤◌, Bool, true, false, Option, List, [], ◌∷◌, None, Some, length, map, slice_get, unwrap_or}
use Rattle.ic_term.specs.Configuration.{occurrences}
use Rattle.ic_machine.specs.declared.plan.Link.{Link}

-- for each name a number, if it has one
abbrev pub Numbers : Type 0
Numbers = ℕ → Option ℕ

abbrev pub number_in : Numbers → ℕ → Option ℕ
number_in numbers x = numbers x

-- the number of a name, which is 0 for a name that has none
abbrev pub register_in : Numbers → ℕ → ℕ
register_in numbers x = unwrap_or (number_in numbers x) 0

-- names stand at these places of a list
abbrev pub StandAt : List ℕ → List ℕ → List ℕ → Type 0
StandAt firsts [] [] = Unit {0}
StandAt firsts (k ∷ ks) (n ∷ ns) = (slice_get firsts k ≡ Some n) × StandAt firsts ks ns
StandAt firsts _ _ = ⊥

-- Different names, those of a list; of each whether it stands there once; and at which place among them each name of the list
-- stands.
pub record AreListed (ns firsts : List ℕ) (single : List Bool) (places : List ℕ) : Type 0 where
  pub few : length firsts ≤ length ns
  pub same : length single ≡ length firsts
  pub apart : (x : ℕ) → occurrences x firsts ≤ 1
  pub all : (x : ℕ) → (1 ≤ occurrences x ns) ↔ (1 ≤ occurrences x firsts)
  pub once : (j x : ℕ) → slice_get firsts j ≡ Some x
      → slice_get single j ≡ Some (occurrences x ns == 1)
  pub stand : StandAt firsts places ns

-- the names that are marked
abbrev pub singles : List ℕ → List Bool → List ℕ
singles (n ∷ ns) (true ∷ cs) = n ∷ singles ns cs
singles (n ∷ ns) (false ∷ cs) = singles ns cs
singles _ _ = []

-- the names that aren't
abbrev pub repeated : List ℕ → List Bool → List ℕ
repeated (n ∷ ns) (true ∷ cs) = repeated ns cs
repeated (n ∷ ns) (false ∷ cs) = n ∷ repeated ns cs
repeated _ _ = []

-- a number for each mark: from one on for those that are set, and from another one on for the others
abbrev pub numbers_from : ℕ → ℕ → List Bool → List ℕ
numbers_from a b [] = []
numbers_from a b (true ∷ cs) = a ∷ numbers_from (a + 1) b cs
numbers_from a b (false ∷ cs) = b ∷ numbers_from a (b + 1) cs

-- The names of a list that stand there once: these have registers, from one on, and no others have.
pub record AreGiven (ns : List ℕ) (start : ℕ) (given : List ℕ) (registers : Numbers) : Type 0 where
  pub once : (x : ℕ) → (occurrences x ns ≡ 1) ↔ ((j : ℕ) × (slice_get given j ≡ Some x))
  pub registers_are : (x r : ℕ) → (number_in registers x ≡ Some r)
      ↔ ((j : ℕ) × (slice_get given j ≡ Some x) × (r ≡ start + j))

-- The names of a list that had no register: these have registers, from one on, and all others those that they had.
pub record AreFresh (ns : List ℕ) (start : ℕ) (names : List ℕ) (old new : Numbers) : Type 0 where
  pub others : (x : ℕ) → ((number_in old x ≡ None) × (1 ≤ occurrences x ns))
      ↔ ((j : ℕ) × (slice_get names j ≡ Some x))
  pub registers_are : (x r : ℕ) → (number_in new x ≡ Some r)
      ↔ ((number_in old x ≡ Some r) ⊎ ((j : ℕ) × (slice_get names j ≡ Some x) × (r ≡ start + j)))

-- These names of a list are given, so many others are not, and these are the registers of all names of the list in their order:
-- those of given ones from one on, and then those of the others.
pub record HaveRegisters (ns : List ℕ) (start : ℕ) (given : List ℕ) (fresh : ℕ) (registers : List ℕ) : Type 0 where
  pub others : List ℕ
  pub mid : Numbers
  pub final : Numbers
  pub are_given : AreGiven ns start given mid
  pub are_fresh : AreFresh ns (start + length given) others mid final
  pub fresh_are : fresh ≡ length others
  pub registers_are : registers ≡ map (register_in final) ns

-- registers two by two
abbrev pub operand_links : List ℕ → List Link
operand_links [] = []
operand_links (k ∷ []) = []
operand_links (k ∷ m ∷ ks) = record { left = k; right = m } ∷ operand_links ks
