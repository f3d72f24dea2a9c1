-- Equations of two agents, by their symbols.
use Rattle.std.specs.Prelude.{ℕ, List, [], ◌∷◌, Option, None, Some}
use Rattle.std.specs.Option.{option_map_or}
use Rattle.ic_term.specs.Tree.{Tree, name, agent, Pair}

-- the symbols of two agents
abbrev pub symbols_of : Tree → Tree → Option (ℕ × ℕ)
symbols_of (name n) u = None
symbols_of (agent a ts) (name n) = None
symbols_of (agent a ts) (agent b us) = Some (a, b)

-- those of the first equation of two agents
abbrev pub first_facing : List Pair → Option (ℕ × ℕ)
first_facing [] = None
first_facing (p ∷ ps) = option_map_or (λ s. Some s) (symbols_of p.left p.right) (first_facing ps)
