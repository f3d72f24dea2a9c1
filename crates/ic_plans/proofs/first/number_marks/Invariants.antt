use Rattle.std.proofs.Common.{◌≡◌, ◌+◌, ◌≤◌, ◌++◌, not, count_by, drop}
use Rattle.ic_plans.specs.inner.Given.{numbers_from}
use Rattle.ic_plans.proofs.first.number_marks.Given as goal

-- those so far and those of what is left are all
abbrev pub invariant-loop-mark : goal.invariant-loop-mark
invariant-loop-mark l = record {
  set : l.set ≤ l.first + l.mark-index;
  unset : l.unset + count_by (λ mark. not mark) (drop l.mark-index l.marks) ≡ l.other + count_by (λ mark. not mark) l.marks;
  numbers : l.numbers.items ++ numbers_from l.set l.unset (drop l.mark-index l.marks) ≡ numbers_from l.first l.other l.marks;
}
