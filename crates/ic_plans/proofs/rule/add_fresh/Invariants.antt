use Rattle.std.proofs.Common.{ℕ, ◌<◌, ◌≤◌, List}
use Rattle.std.specs.Prelude.{IsSome}
use Rattle.std.specs.List.{AllByRecursion}
use Rattle.ic_meaning.specs.Plans.{Argument}
use Rattle.ic_plans.specs.inner.Registers.{AreFreshNames, AreRegisters, found}
use Rattle.ic_plans.proofs.rule.add_fresh.Given as goal

-- the names so far
abbrev pub invariant-loop-number : goal.invariant-loop-number
invariant-loop-number l = record {
  few : l.fresh ≤ l.number;
  all : (x : ℕ) → x < l.number → IsSome (found l.registers x);
  used : AreFreshNames l.number l.start l.fresh l.registers;
  registers : (arguments : List Argument) → AllByRecursion (λ a. a.register < l.start) arguments
      → AreRegisters arguments l.start 0 l.fn.registers → AreRegisters arguments l.start l.fresh l.registers;
}
