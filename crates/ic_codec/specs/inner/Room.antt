-- Bytes that are appended within the room that there is. Inner: private functions cite it.
use Rattle.std.specs.Prelude.{◌≡◌, ℕ, ◌+◌, ◌<◌, ◌≤◌, List, ◌++◌, length, Vec, vec_len, vec_capacity}
use Rattle.std.specs.List.{AllByRecursion}

-- each number of a list is a byte
abbrev pub AreBytes : List ℕ → Type 0
AreBytes bytes = AllByRecursion (λ b. b < 256) bytes

module _ {Z : Type 0} where
  -- Bytes can be appended: there is room for them, and each is one.
  pub record Fits (out : Vec ℕ Z) (bytes : List ℕ) : Type 0 where
    pub room : vec_len out + length bytes ≤ vec_capacity out
    pub each : AreBytes bytes

  -- Bytes have been appended, within the room that there was.
  pub record Appended (old new : Vec ℕ Z) (bytes : List ℕ) : Type 0 where
    pub items : new.items ≡ old.items ++ bytes
    pub len : vec_len new ≡ vec_len old + length bytes
    pub capacity : vec_capacity new ≡ vec_capacity old

  -- These are left of the bytes that are to be appended.
  pub record GoesOn (start : Vec ℕ Z) (bytes : List ℕ) (now : Vec ℕ Z)
      (left : List ℕ) : Type 0 where
    pub items : now.items ++ left ≡ start.items ++ bytes
    pub len : vec_len now + length left ≡ vec_len start + length bytes
    pub capacity : vec_capacity now ≡ vec_capacity start
    pub fits : Fits now left
