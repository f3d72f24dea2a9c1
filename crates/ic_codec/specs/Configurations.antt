-- Configurations as bytes (this project's choice).
use Rattle.std.specs.Prelude.{ℕ, List, ◌∷◌, ◌++◌, length}
use Rattle.std.specs.List.{flat_map}
use Rattle.ic_term.specs.Configuration.{Configuration}
use Rattle.ic_codec.specs.Numbers.{two_bytes}
use Rattle.ic_codec.specs.Terms.{tree_bytes, pair_bytes}

-- A configuration is the number of its interface terms in one byte, that of its equations in two, and
-- then these in order. Its `next` is in the heading of its job.
abbrev pub configuration_bytes : Configuration → List ℕ
configuration_bytes c =
    length c.interface ∷ (two_bytes (length c.equations)
    ++ (flat_map tree_bytes c.interface ++ flat_map pair_bytes c.equations))
