-- What each round of a reduction does (this project's choice).
use Rattle.std.specs.Prelude.{ℕ, zero, suc, ◌+◌, ◌-◌, ◌*◌, ◌^◌, ◌%◌, List, [], ◌∷◌, ◌++◌, length, count_by, is_some}
use Rattle.ic_term.specs.Configuration.{Configuration, configuration_names, configuration_nodes}
use Rattle.ic_rules.specs.Rule.{Rule}
use Rattle.ic_round.specs.Firing.{active_pair}
use Rattle.ic_round.specs.Rounds.{iterate}
use Rattle.ic_meaning.specs.Circles.{circles}
use Rattle.ic_in_place.specs.Told.{figures_after}
use Rattle.ic_by_rounds.specs.declared.row.Row.{Row}

-- how many equations are active, which is how many a round fires
abbrev pub active_count : List Rule → Configuration → ℕ
active_count rs c = count_by (λ p. is_some (active_pair rs p)) c.equations

-- the row of a round with this number, which leads from one configuration to another
abbrev pub row_between : List Rule → ℕ → Configuration → Configuration → Row
row_between rs number before after = record {
  round = number;
  pairs = active_count rs before;
  nodes = configuration_nodes after;
  equations = length after.equations;
  names = length (configuration_names after);
}

-- the row of the round after so many others
abbrev pub row_after : List Rule → Configuration → ℕ → Row
row_after rs c n = row_between rs (n + 1) (iterate rs n c) (iterate rs (suc n) c)

-- the rows of so many rounds, the first one first
abbrev pub rows_of : List Rule → Configuration → ℕ → List Row
rows_of rs c zero = []
rows_of rs c (suc n) = rows_of rs c n ++ row_after rs c n ∷ []

-- The row that is told of the round after so many others. Circles are left out: each has an equation, and its name twice. Of
-- nodes and names the lowest 64 bits are told.
abbrev pub told_row : List Rule → Configuration → ℕ → Row
told_row rs c n = let figures = figures_after rs c n in let after = iterate rs (suc n) c in record {
  round = figures.round;
  pairs = figures.pairs;
  nodes = (configuration_nodes after - 2 * circles after) % 2 ^ 64;
  equations = figures.equations;
  names = (length (configuration_names after) - 2 * circles after) % 2 ^ 64;
}

-- the rows that are told of so many rounds, the first one first
abbrev pub told_rows : List Rule → Configuration → ℕ → List Row
told_rows rs c zero = []
told_rows rs c (suc n) = told_rows rs c n ++ told_row rs c n ∷ []
