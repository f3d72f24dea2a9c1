-- A machine that begins with the configuration of a system, and where it stops.
use Rattle.std.specs.Prelude.{◌≡◌, ℕ, ◌^◌, ◌<◌, ◌≤◌, List, [], IsTrue, length, map}
use Rattle.std.specs.List.{AllByRecursion}
use Rattle.ic_term.specs.Configuration.{configuration_nodes}
use Rattle.ic_term.specs.Symbol.{is_over}
use Rattle.ic_term.specs.declared.limits.TheConstants.{MAX_WIDE_NODES}
use Rattle.ic_rules.specs.RuleSet.{IsRuleSet}
use Rattle.ic_rules.specs.System.{SystemParts}
use Rattle.ic_round.specs.Naming.{HasNames}
use Rattle.ic_arena.specs.declared.word.TheConstants.{GIVEN}
use Rattle.ic_machine.specs.Net.{Net, pieces, HasNext, IsPair, IsStuck}
use Rattle.ic_machine.specs.Plan.{Planned, Plans}
use Rattle.ic_machine.specs.Runs.{Starts}
use Rattle.ic_machine.specs.Separate.{IsSeparate}
use Rattle.ic_in_place.specs.declared.running.Bounds.{Bounds}
use Rattle.ic_in_place.specs.declared.running.End.{End}
use Rattle.ic_in_place.specs.Counting.{AreCounts}
use Rattle.ic_in_place.specs.Holding.{AreCompiled, Holds}
use Rattle.ic_in_place.specs.declared.running.End.TheVariants.{Quiet, Steps, Nodes, Limit, Memory}

-- how many arguments each symbol has
abbrev pub arities_of : SystemParts → List ℕ
arities_of s = map (λ x. x.arity) s.rules.symbols

-- what systems keep
pub record IsSound (s : SystemParts) : Type 0 where
  pub rules : IsRuleSet s.rules
  pub over : IsTrue (is_over s.rules.symbols s.config)
  pub names : HasNames s.config
  pub next : s.config.next ≤ 2 ^ 62
  pub nodes : configuration_nodes s.config ≤ MAX_WIDE_NODES
  pub few : length s.rules.symbols < GIVEN

-- A machine begins with what a plan makes, and has fired no pair.
pub record IsBegun (p : Plans) (given : ℕ) (plan : Planned) (operands : List ℕ) (m : Net) : Type 0 where
  pub arities : m.arities ≡ p.arities
  pub starts : Starts p given plan operands m
  pub aside : m.aside ≡ []
  pub none : m.interactions ≡ 0
  pub counts : m.counts ≡ map (λ plan. 0) p.plans
  pub separate : IsSeparate p.arities m.interface (pieces m)

-- what a stop says of the net that a machine holds, and of the pairs that are left
abbrev pub StopsBy : Bounds → Plans → Net → End → Type 0
StopsBy bounds p m Quiet = AllByRecursion (IsStuck p) m.pending
StopsBy bounds p m Steps = (m.interactions ≡ bounds.steps) × HasNext p m.pending
StopsBy bounds p m Nodes = m.interactions < bounds.steps
StopsBy bounds p m Limit = m.interactions < bounds.steps
StopsBy bounds p m Memory = Unit {0}

-- A machine has stopped that holds what is reached from the configuration of a system, whose names that occur once are given.
-- Nothing is said of who made the steps.
pub record HasCome (s : SystemParts) (bounds : Bounds) (given by_rule : List ℕ) (m : Net)
    (end : End) : Type 0 where
  pub sound : IsSound s
  pub below : AllByRecursion (λ x. x < 2 ^ 62) given
  pub plans : Plans
  pub rule_numbers : List ℕ
  pub plan : Planned
  pub operands : List ℕ
  pub compiled : AreCompiled s.rules rule_numbers plans s.config given plan operands
  pub arities : plans.arities ≡ arities_of s
  pub own_arities : m.arities ≡ arities_of s
  pub fired : List ℕ
  pub held : Holds s.rules plans s.config given fired m
  pub counted : m.interactions ≡ length fired
  pub counts : AreCounts (length s.rules.rules) fired by_rule
  pub within : m.interactions ≤ bounds.steps
  pub pairs : AllByRecursion IsPair m.pending
  pub aside : AllByRecursion (IsStuck plans) m.aside
  pub ended : StopsBy bounds plans m end
