-- A test of whether settling takes no step that asks how often a name occurs, and not where. What
-- settling is doesn't rest on this.
use Rattle.std.specs.Prelude.{ℕ, List, Bool, false, not, ◌&&◌, ◌||◌, nat_le}
use Rattle.ic_term.specs.Tree.{Tree, name, agent, Pair, names}
use Rattle.ic_term.specs.Configuration.{occurrences}
use Rattle.ic_settle.specs.Settling.{occurs}

-- a side is a name that occurs twice among all names of the configuration, and not in the other side
abbrev pub is_applicable : List ℕ → Tree → Tree → Bool
is_applicable all (name x) other = not (occurs x (names other)) && nat_le 2 (occurrences x all)
is_applicable all (agent s ts) other = false

abbrev pub has_applicable : List ℕ → Pair → Bool
has_applicable all p = is_applicable all p.left p.right || is_applicable all p.right p.left
