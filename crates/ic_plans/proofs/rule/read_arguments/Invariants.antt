use Rattle.std.proofs.Common.{◌≡◌, ℕ, ◌+◌, ◌++◌, List, length, map, take}
use Rattle.ic_term.specs.Tree.{Tree}
use Rattle.ic_term.specs.Term.{tree}
use Rattle.ic_meaning.specs.Plans.{arguments_from}
use Rattle.ic_plans.specs.inner.Registers.{AreRegisters}
use Rattle.ic_plans.proofs.rule.read_arguments.Given as goal

-- the arguments so far
abbrev pub invariant-loop-i : goal.invariant-loop-i
invariant-loop-i l = (count start : ℕ) (before : List Tree) → l.from ≡ count + length before
    → AreRegisters (arguments_from count before) start 0 l.fn.registers
    → AreRegisters (arguments_from count (before ++ map tree (take l.i l.terms))) start 0 l.registers
