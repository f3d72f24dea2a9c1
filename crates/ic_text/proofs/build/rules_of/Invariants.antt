use Rattle.std.proofs.Common.{◌≡◌, ◌++◌, map, reverse, vec_len}
use Rattle.ic_term.specs.Term.{tree}
use Rattle.ic_flat.specs.Words.{forest}
use Rattle.ic_rules.specs.Written.{written}
use Rattle.ic_text.specs.inner.Built.{rules_in}
use Rattle.ic_text.proofs.build.rules_of.Given as goal

-- the rules so far and those of what is left are those of the whole
abbrev pub invariant-loop-left : goal.invariant-loop-left
invariant-loop-left l = map written l.rules.items ++ rules_in (reverse (map tree l.sides.items)) ≡ rules_in (forest l.words)

abbrev pub decreases-loop-left : goal.decreases-loop-left
decreases-loop-left l = vec_len l.sides
