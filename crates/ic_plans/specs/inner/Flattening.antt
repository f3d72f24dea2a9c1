-- For private functions: terms as agents that are made one after another, of what is in registers.
use Rattle.std.specs.Prelude.{◌≡◌, ℕ, ◌+◌, ◌<◌, ◌≤◌, ◌==◌, List, ◌++◌, Some, length, map, slice_get, count_by, if◌then◌else◌, nat_lt}
use Rattle.std.specs.List.{flat_map, AllByRecursion}
use Rattle.ic_term.specs.Tree.{Tree}
use Rattle.ic_flat.specs.declared.word.Word.{Word}
use Rattle.ic_flat.specs.declared.word.Word.TheVariants.{Name, Agent}
use Rattle.ic_flat.specs.Words.{forest, word_names}
use Rattle.ic_machine.specs.Plan.{Made, AreMade}
use Rattle.ic_meaning.specs.Plans.{filled, held_made, HoldConstants}

-- A name is read from a register after those of the constants and before that of the first agent that is made. The symbol
-- of an agent is known, with this arity.
abbrev pub IsRead : List ℕ → (ℕ → ℕ) → ℕ → Word → Type 0
IsRead arities registers first (Name x) = (length arities ≤ registers x) × (registers x < first)
IsRead arities registers first (Agent s n) = slice_get arities s ≡ Some n

-- how often names of words are read from a register
abbrev pub times_read : (ℕ → ℕ) → ℕ → List Word → ℕ
times_read registers k ws = count_by (λ x. registers x == k) (flat_map word_names ws)

-- once for the register of each of so many agents, the first of which goes to this register
abbrev pub times_made : ℕ → ℕ → ℕ → ℕ
times_made first count k =
    if nat_lt k first then 0 else if nat_lt k (first + count) then 1 else 0

-- the registers that agents are made of
abbrev pub made_operands : List Made → List ℕ
made_operands ms = flat_map (λ m. m.operands) ms

-- These agents are to be made, and then these registers have the terms that the words write, each name replaced by what is
-- in its register. A register is used as often as a name is read from it, and once if it has an agent that is made.
pub record AreFlat (arities : List ℕ) (registers : ℕ → ℕ) (first : ℕ) (ws : List Word)
    (made : List Made) (operands : List ℕ) : Type 0 where
  pub agents : AreMade arities first made
  pub within : AllByRecursion (λ k. k < first + length made) operands
  pub constant : AllByRecursion (λ k. k < length arities → slice_get arities k ≡ Some 0)
      (made_operands made ++ operands)
  pub used : (k : ℕ) → length arities ≤ k
      → count_by (λ m. m == k) (made_operands made ++ operands)
      ≡ times_read registers k ws + times_made first (length made) k
  pub terms : (held : ℕ → Tree) → HoldConstants (length arities) held
      → map (held_made first made held) operands
      ≡ map (filled (λ x. held (registers x))) (forest ws)

-- the same, where the words are over the symbols with these arities
abbrev pub WouldBeFlat : List ℕ → (ℕ → ℕ) → ℕ → List Word → List Made → List ℕ → Type 0
WouldBeFlat arities registers first ws made operands =
    length arities ≤ first → AllByRecursion (IsRead arities registers first) ws
    → AreFlat arities registers first ws made operands
