use Rattle.std.proofs.Common.{◌≡◌, ◌++◌, drop}
use Rattle.ic_check.specs.Warnings.{unused_rules}
use Rattle.ic_check.specs.inner.Growing.{holds}
use Rattle.ic_check.proofs.warnings.unused_rules.Given as goal

-- what is found and what is left are the whole
abbrev pub invariant-loop-at : goal.invariant-loop-at
invariant-loop-at l = record {
  whole : l.found.items ++ unused_rules (holds l.seen) l.at (drop l.at l.rules) ≡ unused_rules (holds l.seen) 0 l.rules;
}
