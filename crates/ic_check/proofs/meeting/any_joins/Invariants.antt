use Rattle.std.proofs.Common.{◌≡◌, drop, map}
use Rattle.std.specs.List.{list_any}
use Rattle.ic_term.specs.Term.{pair}
use Rattle.ic_check.specs.Warnings.{joins_agents}
use Rattle.ic_check.proofs.meeting.any_joins.Given as goal

-- none so far does
abbrev pub invariant-loop-equation : goal.invariant-loop-equation
invariant-loop-equation l = list_any joins_agents (map pair (drop l.equation-index l.equations)) ≡ list_any joins_agents (map pair l.equations)
