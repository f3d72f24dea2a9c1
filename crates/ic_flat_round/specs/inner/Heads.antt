-- For private functions: words as the heads of the terms that begin with them.
use Rattle.std.specs.Prelude.{◌≡◌, ℕ, ◌<◌, List, Option, length, slice_index}
use Rattle.std.specs.Option.{option_map}
use Rattle.ic_term.specs.Tree.{Tree, name, agent, no_trees, Pair}
use Rattle.ic_settle.specs.declared.applicability.Side.{Side}
use Rattle.ic_settle.specs.declared.applicability.Applicable.{Applicable}
use Rattle.ic_settle.specs.lemmas.Containers.{outlet_at, outlet, applicable_of}
use Rattle.ic_flat.specs.declared.word.Word.{Word}
use Rattle.ic_flat.specs.declared.word.Word.TheVariants.{Name, Agent}

-- the term of a single word: whether a side is applicable depends on no more of it
abbrev pub head : Word → Tree
head (Name n) = name n
head (Agent s arity) = agent s no_trees

abbrev pub heads : Word → Word → Pair
heads left right = record { left = head left; right = head right }

-- a side that is a name which occurs in another container, and that container
abbrev pub told_at : (ℕ → Option ℕ) → Side → Tree → Option (Applicable × ℕ)
told_at other side t = option_map (λ o. (applicable_of o, o.target)) (outlet_at other side t)

-- the first such side of an equation
abbrev pub told : (ℕ → Option ℕ) → Tree → Tree → Option (Applicable × ℕ)
told other left right = option_map (λ o. (applicable_of o, o.target)) (outlet other left right)

-- another container, without a link
abbrev pub IsTarget : List ℕ → ℕ → ℕ → Type 0
IsTarget links place target =
    (target < length links) × ((slice_index links target ≡ target) × (target ≡ place → ⊥))
