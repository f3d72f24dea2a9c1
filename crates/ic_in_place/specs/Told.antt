-- What is told of rounds as they are over.
use Rattle.std.specs.Prelude.{ℕ, zero, suc, ◌+◌, ◌-◌, List, [], ◌∷◌, ◌++◌, length}
use Rattle.std.specs.List.{AllByRecursion}
use Rattle.ic_term.specs.Configuration.{Configuration}
use Rattle.ic_rules.specs.Rule.{Rule}
use Rattle.ic_round.specs.ActivePlaces.{active}
use Rattle.ic_round.specs.Rounds.{iterate}
use Rattle.ic_machine.specs.Net.{Net, equations_left, IsAtPlace, IsPair}
use Rattle.ic_meaning.specs.Circles.{circles}

-- A round is over: its number, how many pairs fired in it, and the net then.
pub record RoundOver : Type 0 where
  pub round : ℕ
  pub pairs : ℕ
  pub net : Net

-- the number of a round, how many pairs fire in it, and how many equations that are no circles there are then
pub record RoundFigures : Type 0 where
  pub round : ℕ
  pub pairs : ℕ
  pub equations : ℕ

-- the figures of the round after so many others
abbrev pub figures_after : List Rule → Configuration → ℕ → RoundFigures
figures_after rs c n = record {
  round = n + 1;
  pairs = length (active rs (iterate rs n c));
  equations = length (iterate rs (suc n) c).equations - circles (iterate rs (suc n) c);
}

-- of so many rounds of a configuration, the first one first
abbrev pub figures_by : List Rule → Configuration → ℕ → List RoundFigures
figures_by rs c zero = []
figures_by rs c (suc n) = figures_by rs c n ++ figures_after rs c n ∷ []

-- the figures that are told of a round
abbrev pub figures_of : RoundOver → RoundFigures
figures_of o = record { round = o.round; pairs = o.pairs; equations = equations_left o.net }

-- Between rounds no side of an equation that is left is a name, and no equation is at a place.
pub record IsBetween (m : Net) : Type 0 where
  pub pending : AllByRecursion IsPair m.pending
  pub aside : AllByRecursion IsPair m.aside
  pub places : AllByRecursion IsAtPlace m.places
