-- Works dealt out to workers (this project's choice).
use Rattle.std.specs.Prelude.{◌≡◌, ℕ, ◌<◌, ◌≤◌, ◌==◌, List, [], ◌∷◌, ◌++◌, Bool, ◌&&◌, ◌||◌, length, map, replicate, nat_lt, slice_index, slice_index_or, slice_set, flat_map, IsPermutation, IsSortedBy}
use Rattle.ic_rules.specs.Rule.{Rule}
use Rattle.ic_round.specs.Works.{PlainWork}
use Rattle.ic_crew.specs.Sizes.{work_size, part_size}

-- the first of two works is dealt before the second: it is greater, or as great and at a lower place
abbrev pub is_dealt_before : List Rule → PlainWork → PlainWork → Bool
is_dealt_before rs v w = nat_lt (work_size rs w) (work_size rs v)
    || (work_size rs w == work_size rs v && nat_lt v.place w.place)

-- the place of the least of some sizes, the first of them where several are
pub record IsLeast (sizes : List ℕ) (i : ℕ) : Type 0 where
  pub within : i < length sizes
  pub first : (k : ℕ) → k < i → slice_index sizes i < slice_index sizes k
  pub least : (k : ℕ) → k < length sizes → slice_index sizes i ≤ slice_index sizes k

-- the parts with a work more at the end of one of them
abbrev pub with_work : ℕ → PlainWork → List (List PlainWork) → List (List PlainWork)
with_work i w parts = slice_set parts i (slice_index_or parts i [] ++ w ∷ [])

-- From these parts to those: each work in its turn was put to the part that was least then.
abbrev pub AreDealt : List Rule → List (List PlainWork) → List PlainWork → List (List PlainWork)
    → Type 0
AreDealt rs before [] after = before ≡ after
AreDealt rs before (w ∷ ws) after =
    (i : ℕ) × (IsLeast (map (part_size rs) before) i × AreDealt rs (with_work i w before) ws after)

-- Works dealt out to so many parts: the greatest first, each to the least part.
pub record IsDealing (rs : List Rule) (count : ℕ) (ws : List PlainWork)
    (parts : List (List PlainWork)) : Type 0 where
  pub order : List PlainWork
  pub same : IsPermutation ws order
  pub sorted : IsSortedBy (is_dealt_before rs) order
  pub dealt : AreDealt rs (replicate count []) order parts

-- all works of the parts, one part after the other
abbrev pub joined : List (List PlainWork) → List PlainWork
joined parts = flat_map (λ part. part) parts
