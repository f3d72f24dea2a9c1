use Rattle.std.proofs.Common.{drop}
use Rattle.ic_check.proofs.Growth.{GoesOnWith}
use Rattle.ic_check.proofs.reach.makings_of.Given as goal

-- these are what the rules in front make
abbrev pub invariant-loop-rule : goal.invariant-loop-rule
invariant-loop-rule l = record { so_far : GoesOnWith l.rules (drop l.rule-index l.rules) l.makings.items }
