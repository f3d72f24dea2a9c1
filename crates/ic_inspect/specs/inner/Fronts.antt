-- For private functions: the front of what a reader has.
use Rattle.std.specs.Prelude.{◌≡◌, ℕ, List, Option, None, Some, take}

-- these are the first so many bytes that a reader has, where it tells them
abbrev pub IsFrontOf : ℕ → List ℕ → Option (List ℕ) → Type 0
IsFrontOf n bytes None = Unit {0}
IsFrontOf n bytes (Some all) = bytes ≡ take n all
