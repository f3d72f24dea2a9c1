use Rattle.std.proofs.Common.{◌≡◌, ◌==◌, drop}
use Rattle.std.specs.List.{list_all}
use Rattle.ic_term.specs.Configuration.{occurrences}
use Rattle.ic_rules.specs.Renaming.{are_paired}
use Rattle.ic_rules.proofs.renaming.are_paired.Given as goal

-- the answer is that of the names left
abbrev pub invariant-loop-name : goal.invariant-loop-name
invariant-loop-name l = list_all (λ n. occurrences n l.names == 2) (drop l.name-index l.names) ≡ are_paired l.names
