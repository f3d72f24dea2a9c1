-- What an output has whose writer has failed.
use Rattle.std.specs.Prelude.{◌≡◌, ℕ, List, ◌++◌, Option}
use Rattle.std.specs.Io.KnownBytes.{Appends}

-- these bytes were written, and after them a front of these
pub record AppendsFront (old new : Option (List ℕ)) (before after : List ℕ) : Type 0 where
  pub sent : List ℕ
  pub unsent : List ℕ
  pub parted : after ≡ sent ++ unsent
  pub written : Appends old new (before ++ sent)
