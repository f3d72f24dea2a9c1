-- What the figures of a reduction have to tell (this project's choice).
use Rattle.std.specs.Prelude.{◌≡◌, ℕ, List, ◌++◌}

-- a text stands in another one
abbrev pub StandsIn : List ℕ → List ℕ → Type 0
StandsIn part whole = (before : List ℕ) × (after : List ℕ) × (whole ≡ before ++ (part ++ after))
