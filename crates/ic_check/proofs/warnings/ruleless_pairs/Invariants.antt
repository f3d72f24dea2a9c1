use Rattle.std.proofs.Common.{◌≡◌, ◌++◌, drop, map}
use Rattle.ic_term.specs.Term.{pair}
use Rattle.ic_check.specs.Warnings.{ruleless_pairs}
use Rattle.ic_check.proofs.warnings.ruleless_pairs.Given as goal

-- what is found and what is left are the whole
abbrev pub invariant-loop-equation : goal.invariant-loop-equation
invariant-loop-equation l = record {
  whole : l.pairs.items ++ ruleless_pairs l.rules.rules (map pair (drop l.equation-index l.equations)) ≡ ruleless_pairs l.rules.rules (map pair l.equations);
}
