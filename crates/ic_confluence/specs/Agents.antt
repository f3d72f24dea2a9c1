-- The agents of a net, and the way round a circle.
use Rattle.std.specs.Prelude.{ℕ, suc, List, [], ◌∷◌, ◌++◌, if◌then◌else◌}
use Rattle.std.specs.List.{flat_map}
use Rattle.ic_term.specs.Tree.{Tree, name, agent, Trees, no_trees, more_trees, names, Pair}
use Rattle.ic_term.specs.Configuration.{Configuration}
use Rattle.ic_settle.specs.Settling.{occurs}

-- the symbols of a term's agents in the order of the text, each as often as it occurs
abbrev mutual
  pub symbols : Tree → List ℕ
  symbols (name n) = []
  symbols (agent s ts) = s ∷ symbols_of ts

  pub symbols_of : Trees → List ℕ
  symbols_of no_trees = []
  symbols_of (more_trees t ts) = symbols t ++ symbols_of ts

abbrev pub pair_symbols : Pair → List ℕ
pair_symbols p = symbols p.left ++ symbols p.right

-- the symbols of all agents of a configuration
abbrev pub configuration_symbols : Configuration → List ℕ
configuration_symbols c = flat_map symbols c.interface ++ flat_map pair_symbols c.equations

-- The way from a term to a name in it: the symbol of each agent on it, and the place of the
-- argument through which it goes on.
abbrev mutual
  pub way_to : ℕ → Tree → List (ℕ × ℕ)
  way_to x (name n) = []
  way_to x (agent s ts) = way_through x s 0 ts

  -- through arguments of an agent, the first of which stands at this place
  pub way_through : ℕ → ℕ → ℕ → Trees → List (ℕ × ℕ)
  way_through x s k no_trees = []
  way_through x s k (more_trees t ts) =
      if occurs x (names t) then (s, k) ∷ way_to x t else way_through x s (suc k) ts

abbrev pub way_between : Tree → Tree → List (ℕ × ℕ)
way_between (name x) u = way_to x u
way_between (agent s ts) (name y) = way_to y (agent s ts)
way_between (agent s ts) (agent r us) = []

-- The way round a circle, from its name back to it. An equation that is no circle has none.
abbrev pub way_round : Pair → List (ℕ × ℕ)
way_round p = way_between p.left p.right
