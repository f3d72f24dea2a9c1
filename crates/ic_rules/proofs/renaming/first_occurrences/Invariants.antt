use Rattle.std.proofs.Common.{◌≡◌, drop}
use Rattle.ic_rules.specs.Renaming.{first_after, first_occurrences}
use Rattle.ic_rules.proofs.renaming.first_occurrences.Given as goal

-- the search goes on after the names so far
abbrev pub invariant-loop-name : goal.invariant-loop-name
invariant-loop-name l = first_after l.firsts (drop l.name-index l.names) ≡ first_occurrences l.names
