-- For private functions: where the wires of names stand in a list.
use Rattle.std.specs.Prelude.{◌≡◌, ℕ, suc, ◌==◌, List, [], ◌∷◌, Option, None, Some, if◌then◌else◌}
use Rattle.std.specs.Ordering.{nat_cmp}
use Rattle.std.specs.Option.{option_map}
use Rattle.std.specs.BTreeMap.{BTreeMap, get}
use Rattle.ic_nets.specs.declared.net.Wire.{Wire}

-- where the wire of a name stands, if it has one
abbrev pub place_of : ℕ → List (ℕ × Wire) → Option ℕ
place_of n [] = None
place_of n (w ∷ ws) = if n == w.0 then Some 0 else option_map suc (place_of n ws)

-- a tree has the places of all
abbrev pub AreIndexed : BTreeMap ℕ ℕ → List (ℕ × Wire) → Type 0
AreIndexed places ws = (n : ℕ) → get nat_cmp places n ≡ place_of n ws
