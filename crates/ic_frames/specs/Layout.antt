-- The bytes of a slot, written out. This project's choice.
use Rattle.std.specs.Prelude.{ℕ, ◌^◌, ◌<◌, List, ◌∷◌, ◌++◌, length, slice_index}
use Rattle.std.specs.Int.{w32, w64, to_be_bytes}

-- after its gate: the number in eight bytes, the length of the body in four, and the body
abbrev pub after_gate : (number : ℕ) (held : List ℕ) → List ℕ
after_gate number held = to_be_bytes w64 number ++ to_be_bytes w32 (length held) ++ held

-- an open slot: 1 at the gate, and what is after it
abbrev pub slot_bytes : (number : ℕ) (held : List ℕ) → List ℕ
slot_bytes number held = 1 ∷ after_gate number held

-- the file is a list of bytes
abbrev pub AreBytes : List ℕ → Type 0
AreBytes file = (i : ℕ) → slice_index file i < 2 ^ 8
