-- For private functions: what a list of places holds for names.
use Rattle.std.specs.Prelude.{ℕ, ◌*◌, ◌/◌, ◌%◌, ◌^◌, ◌==◌, List, Option, None, Some, slice_get, if◌then◌else◌}
use Rattle.std.specs.Ordering.{nat_cmp}
use Rattle.std.specs.BTreeMap.{get}
use Rattle.ic_flat_round.specs.declared.places.Places.{Places}
use Rattle.ic_flat_round.specs.declared.places.Spot.{Spot}
use Rattle.ic_flat_round.specs.declared.places.TheConstants.{SPREAD}

-- the slot of a name
unfoldable pub slot_of : ℕ → ℕ → ℕ
slot_of shift x = (x * SPREAD) % 2 ^ 64 / 2 ^ (shift % 64)

-- the spot with the number that a slot may have
abbrev pub spot_in : List Spot → Option ℕ → Option Spot
spot_in spots None = None
spot_in spots (Some number) = slice_get spots number

-- the spot that the slot of a name leads to
abbrev pub spot_of : List ℕ → List Spot → ℕ → ℕ → Option Spot
spot_of slots spots shift x = spot_in spots (slice_get slots (slot_of shift x))

-- the containers of a name, by that spot, or else by what is said without it
abbrev pub spot_tells : Option Spot → Option (ℕ × ℕ) → ℕ → Option (ℕ × ℕ)
spot_tells None other x = other
spot_tells (Some s) other x = if s.name == x then Some (s.first, s.last) else other

-- the first and the last container of a name, if it was noted
unfoldable pub found : Places → ℕ → Option (ℕ × ℕ)
found p x = spot_tells (spot_of p.slots.items p.spots.items p.shift x) (get nat_cmp p.others x) x
