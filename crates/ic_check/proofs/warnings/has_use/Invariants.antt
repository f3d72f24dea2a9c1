use Rattle.std.proofs.Common.{◌≡◌, drop}
use Rattle.ic_check.specs.Warnings.{has_use}
use Rattle.ic_check.specs.inner.Growing.{holds}
use Rattle.ic_check.proofs.warnings.has_use.Given as goal

-- none so far may
abbrev pub invariant-loop-rule : goal.invariant-loop-rule
invariant-loop-rule l = has_use (holds l.seen) (drop l.rule-index l.rules) ≡ has_use (holds l.seen) l.rules
