-- Circles: equations of a name with a term that has it, for which nothing can be put.
use Rattle.std.specs.Prelude.{ℕ, ◌==◌, Bool, false, ◌||◌, not, count_by}
use Rattle.ic_term.specs.Tree.{Tree, name, agent, names, Pair}
use Rattle.ic_term.specs.Configuration.{Configuration, occurrences}

-- whether this is a name that occurs in a term
abbrev pub is_name_in : Tree → Tree → Bool
is_name_in (name x) t = not (occurrences x (names t) == 0)
is_name_in (agent s us) t = false

abbrev pub is_circle : Pair → Bool
is_circle p = is_name_in p.left p.right || is_name_in p.right p.left

-- how many equations are circles
abbrev pub circles : Configuration → ℕ
circles c = count_by is_circle c.equations
