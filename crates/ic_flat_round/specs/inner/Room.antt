-- For private functions: what is appended to a list within the room that it has.
use Rattle.std.specs.Prelude.{◌≡◌, ◌+◌, ◌≤◌, List, ◌++◌, length, Vec, vec_len, vec_capacity}

module _ {X Z : Type 0} where
  -- there is room for these
  abbrev pub HasRoom : Vec X Z → List X → Type 0
  HasRoom out xs = vec_len out + length xs ≤ vec_capacity out

  -- these have been appended, and there is no less room
  pub record Appended (old new : Vec X Z) (xs : List X) : Type 0 where
    pub items : new.items ≡ old.items ++ xs
    pub len : vec_len new ≡ vec_len old + length xs
    pub capacity : vec_capacity old ≤ vec_capacity new

  -- this is left of what is to be appended
  pub record GoesOn (start : Vec X Z) (all : List X) (now : Vec X Z) (left : List X) : Type 0 where
    pub items : now.items ++ left ≡ start.items ++ all
    pub len : vec_len now + length left ≡ vec_len start + length all
    pub capacity : vec_capacity start ≤ vec_capacity now
    pub room : vec_len now + length left ≤ vec_capacity now

  -- the same, where it isn't known whether there is room for what is left
  pub record GoesOnTo (start : Vec X Z) (all : List X) (now : Vec X Z) (left : List X) : Type 0 where
    pub items : now.items ++ left ≡ start.items ++ all
    pub len : vec_len now + length left ≡ vec_len start + length all
    pub capacity : vec_capacity start ≤ vec_capacity now
