use Rattle.std.proofs.Common.{◌≡◌, ◌+◌, ◌++◌, map, drop}
use Rattle.ic_term.specs.Term.{tree}
use Rattle.ic_meaning.specs.Plans.{arguments_from}
use Rattle.ic_plans.specs.inner.Registers.{links_of, register_of}
use Rattle.ic_plans.proofs.rule.link_arguments.Given as goal

-- the links so far and those of the arguments that are left
abbrev pub invariant-loop-i : goal.invariant-loop-i
invariant-loop-i l =
    l.links.items ++ links_of (register_of l.registers) (arguments_from (l.from + l.i) (map tree (drop l.i l.terms))) (drop l.i l.operands)
    ≡ l.fn.links.items ++ links_of (register_of l.registers) (arguments_from l.from (map tree l.terms)) l.operands
