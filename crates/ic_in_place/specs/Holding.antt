-- What a machine holds that began with a configuration.
use Rattle.std.specs.Prelude.{◌≡◌, ◌↔◌, ℕ, ◌<◌, List, [], Some, length, slice_get}
use Rattle.std.specs.List.{AllByRecursion}
use Rattle.ic_term.specs.Configuration.{Configuration, configuration_names, occurrences}
use Rattle.ic_rules.specs.RuleSet.{Rules}
use Rattle.ic_round.specs.Naming.{HasNames}
use Rattle.ic_reaching.specs.OneNet.{OneNet}
use Rattle.ic_reaching.specs.Reaching.{Reaches}
use Rattle.ic_arena.specs.declared.word.TheConstants.{GIVEN}
use Rattle.ic_machine.specs.Net.{Net, pieces, IsAtPlace}
use Rattle.ic_machine.specs.Plan.{Planned, Plans, ArePlans, IsPlan}
use Rattle.ic_machine.specs.Runs.{Starts, Ran}
use Rattle.ic_machine.specs.Separate.{IsSeparate}
use Rattle.ic_meaning.specs.Words.{Numbers, AreNumbers}
use Rattle.ic_meaning.specs.Nets.{net_of, AreNetPieces}
use Rattle.ic_meaning.specs.Plans.{ArePlansOf, StandsForNet}

-- these are the names that occur once
abbrev pub AreGiven : List ℕ → Configuration → Type 0
AreGiven given c = (x : ℕ) → (occurrences x (configuration_names c) ≡ 1)
    ↔ ((j : ℕ) × (slice_get given j ≡ Some x))

-- Plans of a rule set, and a plan that stands for a configuration, which is given the names that occur once.
pub record AreCompiled (rs : Rules) (numbers : List ℕ) (p : Plans) (c : Configuration)
    (given : List ℕ) (plan : Planned) (operands : List ℕ) : Type 0 where
  pub plans : ArePlans p
  pub of_rules : ArePlansOf rs numbers p
  pub few : length p.arities < GIVEN
  pub is_plan : IsPlan p.arities (length given) plan
  pub stands : StandsForNet p.arities given c plan operands
  pub free : AreGiven given c

-- A machine began with what a plan makes, no pair set aside, and has come this far.
pub record HasRun (p : Plans) (given : ℕ) (plan : Planned) (operands : List ℕ) (m : Net) : Type 0 where
  pub first : Net
  pub starts : Starts p given plan operands first
  pub separate : IsSeparate p.arities first.interface (pieces first)
  pub aside : first.aside ≡ []
  pub ran : Ran p first m

-- What a machine holds is a configuration that is reached from this one by these rules, and its free names are the same.
-- The names that stand for its places have any numbers.
pub record Holds (rs : Rules) (p : Plans) (c : Configuration) (given fired : List ℕ) (m : Net) : Type 0 where
  pub numbers : Numbers
  pub sound : AreNumbers numbers
  pub arities : numbers.arities ≡ p.arities
  pub names : numbers.given ≡ given
  pub are_pieces : AreNetPieces p.arities m.interface (pieces m)
  pub has_names : HasNames (net_of numbers m.interface (pieces m))
  pub reached : Reaches rs.rules c (net_of numbers m.interface (pieces m)) fired
  pub free : AreGiven given (net_of numbers m.interface (pieces m))

-- The net that a machine holds, by the numbers of its places, is one with this configuration.
abbrev pub IsNetOf : Numbers → Net → Configuration → Type 0
IsNetOf numbers m d = OneNet (net_of numbers m.interface (pieces m)) d

-- No pair is left to be looked at, and places hold no equation.
pub record HasEnded (m : Net) : Type 0 where
  pub pending : m.pending ≡ []
  pub places : AllByRecursion IsAtPlace m.places
