-- A machine that begins with the configuration of a system.
use Rattle.std.specs.Prelude.{ℕ, List, length, map}
use Rattle.ic_rules.specs.System.{SystemParts}
use Rattle.ic_machine.specs.Net.{Net}
use Rattle.ic_machine.specs.Plan.{Planned, Plans}
use Rattle.ic_machine.specs.Runs.{IsStart, Starts}
use Rattle.ic_meaning.specs.Plans.{StandsForNet}

-- There is a plan that stands for the configuration of a system, of which these names are given, and a net begins with it.
pub record BeginsWith (s : SystemParts) (p : Plans) (given : List ℕ) (n : Net) : Type 0 where
  pub plan : Planned
  pub operands : List ℕ
  pub start : IsStart (map (λ x. x.arity) s.rules.symbols) (length given) plan operands
  pub stands : StandsForNet (map (λ x. x.arity) s.rules.symbols) given s.config plan operands
  pub starts : Starts p (length given) plan operands n
