-- For private functions: names that are bound to places among words.
use Rattle.std.specs.Prelude.{◌≡◌, ℕ, ◌<◌, List, Some, length, nat_eq}
use Rattle.std.specs.Map.{lookup}
use Rattle.ic_term.specs.Tree.{Tree, Pair}
use Rattle.ic_settle.specs.declared.applicability.Side.{Side}
use Rattle.ic_settle.specs.declared.applicability.Side.TheVariants.{Left, Right}
use Rattle.ic_settle.specs.lemmas.Waiting.{kept_by}
use Rattle.ic_flat.specs.declared.word.Word.{Word}
use Rattle.ic_flat_round.specs.declared.pass.Kept.{Kept}
use Rattle.ic_flat_rules.specs.Standing.{tree_at}

-- the names, each with the term that waits for it
abbrev pub waiting : List Word → List (ℕ × ℕ) → List (ℕ × Tree)
waiting ws es = kept_by (tree_at ws) es

-- each name is bound to a place among the words
abbrev pub AreWithin : List Word → List (ℕ × ℕ) → Type 0
AreWithin ws es = (x place : ℕ) → lookup (nat_eq x) es ≡ Some place → place < length ws

-- an equation by the places of its sides
abbrev pub kept_at : List Word → Kept → Pair
kept_at ws k = record { left = tree_at ws k.left; right = tree_at ws k.right }

-- they lie among the words
abbrev pub IsKeptWithin : List Word → Kept → Type 0
IsKeptWithin ws k = (k.left < length ws) × (k.right < length ws)

-- the place of the side opposite to a side
abbrev pub other_place : ℕ → ℕ → Side → ℕ
other_place left right Left = right
other_place left right Right = left
