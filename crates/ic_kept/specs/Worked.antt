-- Two files by hand: the worked example of their fields.
use Rattle.std.specs.Prelude.{ℕ, List, [], ◌∷◌}

-- an open gate, the number 258, the length 3, the three bytes of the state, and one more byte
abbrev pub file_by_hand : List ℕ
file_by_hand = 1 ∷ 0 ∷ 0 ∷ 0 ∷ 0 ∷ 0 ∷ 0 ∷ 1 ∷ 2 ∷ 0 ∷ 0 ∷ 0 ∷ 0 ∷ 0 ∷ 0 ∷ 0 ∷ 3 ∷ 5 ∷ 6 ∷ 7 ∷ 9 ∷ []

-- a closed gate, the number 1, the length 0, and no state
abbrev pub shut_by_hand : List ℕ
shut_by_hand = 0 ∷ 0 ∷ 0 ∷ 0 ∷ 0 ∷ 0 ∷ 0 ∷ 0 ∷ 1 ∷ 0 ∷ 0 ∷ 0 ∷ 0 ∷ 0 ∷ 0 ∷ 0 ∷ 0 ∷ []
