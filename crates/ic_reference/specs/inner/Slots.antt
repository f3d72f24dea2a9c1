-- For private functions. The places of a list of equations while results come in: taken, with what
-- stands there, or awaited.
use Rattle.std.specs.Prelude.{ℕ, zero, suc, ◌+◌, ◌==◌, List, [], ◌∷◌, ◌++◌, Bool, true, false, Option, None, Some, find, map}
use Rattle.std.specs.Option.{option_map}
use Rattle.ic_term.specs.Tree.{Pair}
use Rattle.ic_term.specs.Term.{pair}
use Rattle.ic_round.specs.Works.{PlainFired}
use Rattle.ic_reference.specs.declared.slots.Slot.{Slot}
use Rattle.ic_reference.specs.declared.slots.Slot.TheVariants.{Kept, Awaited, Filled}

-- what stands in a place, if it isn't awaited
abbrev pub slot_of : Slot → Option (List Pair)
slot_of (Kept e) = Some (pair e ∷ [])
slot_of Awaited = None
slot_of (Filled es) = Some (map pair es.items)

-- the places of equations with gaps once these results have come
abbrev pub slots_from : ℕ → List (Option Pair) → List PlainFired → List (Option (List Pair))
slots_from i [] fs = []
slots_from i (Some p ∷ es) fs = Some (p ∷ []) ∷ slots_from (i + 1) es fs
slots_from i (None ∷ es) fs =
    option_map (λ f. f.products) (find (λ f. f.place == i) fs) ∷ slots_from (i + 1) es fs

-- products put in a place, if it is awaited, and whether it is
abbrev pub put_in : ℕ → List Pair → List (Option (List Pair)) → List (Option (List Pair)) × Bool
put_in n ps [] = ([], false)
put_in zero ps (None ∷ ss) = (Some ps ∷ ss, true)
put_in zero ps (Some qs ∷ ss) = (Some qs ∷ ss, false)
put_in (suc n) ps (s ∷ ss) = let rest = put_in n ps ss in (s ∷ rest.0, rest.1)

-- what stands in all places, if none is awaited
abbrev pub joined : List (Option (List Pair)) → Option (List Pair)
joined [] = Some []
joined (None ∷ ss) = None
joined (Some ps ∷ ss) = option_map (λ rest. ps ++ rest) (joined ss)
