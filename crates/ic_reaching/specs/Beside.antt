-- A part of a net, with the rest of the net beside it.
use Rattle.std.specs.Prelude.{ℕ, ◌≤◌, List, [], ◌∷◌, ◌++◌, max, IsTrue}
use Rattle.ic_term.specs.Tree.{Tree, Pair}
use Rattle.ic_term.specs.Configuration.{Configuration, configuration_names, names_in, occurrences, one_above}
use Rattle.ic_term.specs.Symbol.{is_over}
use Rattle.ic_rules.specs.RuleSet.{Rules}
use Rattle.ic_round.specs.Naming.{HasNames}
use Rattle.ic_reaching.specs.Reaching.{Reaches}

-- a configuration with these terms too in its interface, and these equations too; fresh names begin
-- above those of all
abbrev pub beside : Configuration → List Tree → List Pair → Configuration
beside c ts es = record {
  interface = c.interface ++ ts;
  equations = c.equations ++ es;
  next = max c.next (one_above (names_in ts es));
}

-- A name that occurs in these terms or equations occurs at most once in the configuration.
pub record IsApart (c : Configuration) (ts : List Tree) (es : List Pair) : Type 0 where
  pub once : (n : ℕ) → 1 ≤ occurrences n (names_in ts es)
      → occurrences n (configuration_names c) ≤ 1

-- Two parts of a net as one: a name that both have is where they are connected.
abbrev pub together : Configuration → Configuration → Configuration
together c d = beside c d.interface d.equations

-- parts of a net as one, in this order
abbrev pub all_together : List Configuration → Configuration
all_together [] = record { interface = []; equations = []; next = 0 }
all_together (c ∷ cs) = together c (all_together cs)

-- a part of a net as it is given, what it reaches by itself, and by which rules
pub record PartRun : Type 0 where
  pub given : Configuration
  pub reached : Configuration
  pub fired : List ℕ

-- The part is over the symbols, each of its names is below `next` and occurs at most twice, and
-- this is what it reaches.
pub record HasRun (rs : Rules) (run : PartRun) : Type 0 where
  pub over : IsTrue (is_over rs.symbols run.given)
  pub names : HasNames run.given
  pub reaches : Reaches rs.rules run.given run.reached run.fired
