-- For private functions: how the number of a pair of symbols is found.
use Rattle.std.specs.Prelude.{◌≡◌, ℕ, ◌+◌, ◌*◌, ◌^◌, ◌&&◌, List, Option, None, length, slice_index_or, nat_lt, if◌then◌else◌}
use Rattle.std.specs.Ordering.{nat_cmp}
use Rattle.std.specs.BTreeMap.{BTreeMap, get}
use Rattle.ic_machine.specs.Plan.{place_of}

-- a map from keys to numbers
abbrev pub Keyed : Type 0
Keyed = BTreeMap ℕ ℕ

abbrev pub key_of : ℕ → ℕ → ℕ
key_of a b = a * 2 ^ 32 + b

-- The number of a pair: of the first symbols it is the entry in its row, and of other ones it is found by its key.
abbrev pub number_in : ℕ → List (Option ℕ) → Keyed → ℕ → ℕ → Option ℕ
number_in rows entries others a b =
    if nat_lt a rows && nat_lt b rows then slice_index_or entries (a * rows + b) None
    else if nat_lt b (2 ^ 32) then get nat_cmp others (key_of a b) else None

-- each pair is found, and no other
pub record IsIndex (pairs : List (ℕ × ℕ)) (rows : ℕ) (entries : List (Option ℕ)) (others : Keyed) : Type 0 where
  pub square : length entries ≡ rows * rows
  pub found : (a b : ℕ) → number_in rows entries others a b ≡ place_of a b pairs
