-- The places of the active equations, and where the fresh names of each begin.
use Rattle.std.specs.Prelude.{ℕ, ◌+◌, List, [], ◌∷◌}
use Rattle.std.specs.Option.{option_map_or}
use Rattle.ic_term.specs.Tree.{Pair}
use Rattle.ic_term.specs.Configuration.{Configuration}
use Rattle.ic_rules.specs.Rule.{Rule}
use Rattle.ic_round.specs.Firing.{active_pair, count_of}

-- the places of the active equations of a list, the first of which stands at this place
abbrev pub active_from : List Rule → ℕ → List Pair → List ℕ
active_from rs i [] = []
active_from rs i (p ∷ ps) =
    option_map_or (λ a. i ∷ active_from rs (i + 1) ps) (active_pair rs p)
    (active_from rs (i + 1) ps)

abbrev pub active : List Rule → Configuration → List ℕ
active rs c = active_from rs 0 c.equations

-- The bases of the active equations: each later one is higher by the name count of the rule before.
abbrev pub bases_from : List Rule → ℕ → List Pair → List ℕ
bases_from rs base [] = []
bases_from rs base (p ∷ ps) =
    option_map_or (λ a. base ∷ bases_from rs (base + count_of rs a.rule) ps) (active_pair rs p)
    (bases_from rs base ps)

abbrev pub bases : List Rule → Configuration → List ℕ
bases rs c = bases_from rs c.next c.equations
