-- For private functions: names that are bound to places.
use Rattle.std.specs.Prelude.{ℕ, List}

-- the names, each with its place
pub record Bindings : Type 0 where
  pub entries : List (ℕ × ℕ)
