use Rattle.std.proofs.Common.{◌+◌, ◌≤◌, length, take}
use Rattle.std.specs.List.{AllByRecursion}
use Rattle.ic_plans.specs.inner.Entries.{ArePlanned, HasPlans}
use Rattle.ic_plans.proofs.compiling.compile.Given as goal

-- the plans of the rules so far
abbrev pub invariant-loop-rule : goal.invariant-loop-rule
invariant-loop-rule l = record {
  planned : ArePlanned l.rules l.numbers.items l.program;
  few : length l.program.plans ≤ l.rule-index + l.rule-index;
  plans : AllByRecursion (HasPlans l.program) (take l.rule-index l.rules.rules);
}
