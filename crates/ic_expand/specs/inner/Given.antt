-- How the rules that a text gives are found.
use Rattle.std.specs.Prelude.{◌≡◌, ℕ, ◌-◌, ◌==◌, List, [], Bool, false, ◌&&◌, Option, None, Some, get_or, length}
use Rattle.std.specs.declared.cmp.Ordering.{Ordering}
use Rattle.std.specs.List.{list_any, position}
use Rattle.std.specs.Ordering.{nat_cmp, ordering_then}
use Rattle.std.specs.Str.{bytes_eq}
use Rattle.std.specs.BTreeSet.{BTreeSet, contains}

-- the order of two places
abbrev pub place_cmp : ℕ × ℕ → ℕ × ℕ → Ordering
place_cmp x y = ordering_then (nat_cmp x.0 y.0) (nat_cmp x.1 y.1)

abbrev pub has_place : ℕ → Option ℕ → Bool
has_place i None = false
has_place i (Some k) = i == k

-- whether the two words of a rule stand at these places
abbrev pub is_at : (known : List (List ℕ)) → (i j : ℕ) → List ℕ × List ℕ → Bool
is_at known i j pair = has_place i (position (bytes_eq pair.0) known)
    && has_place j (position (bytes_eq pair.1) known)

-- the places of the words of each rule are there, and no other
abbrev pub AreGiven : BTreeSet (ℕ × ℕ) → (known : List (List ℕ)) → List (List ℕ × List ℕ) → Type 0
AreGiven given known pairs =
    (i j : ℕ) → contains place_cmp given (i, j) ≡ list_any (is_at known i j) pairs

-- what is told of the first `>`, or the place of no word where there is none
abbrev pub last_side : (known : List (List ℕ)) → List (Option ℕ) → Option ℕ
last_side known sides = get_or sides (length sides - 1) (position (bytes_eq []) known)
