use Rattle.std.proofs.Common.{◌≡◌, ℕ, Some, length, slice_get}
use Rattle.ic_meaning.specs.Plans.{rule_number}
use Rattle.ic_by_rounds.specs.declared.amounts.Amounts.{Amounts}
use Rattle.ic_by_rounds.specs.inner.Amounts.{IsChange}
use Rattle.ic_by_rounds.proofs.amounts.changes_of.Given as goal

abbrev pub invariant-loop-number : goal.invariant-loop-number
invariant-loop-number l = record {
  many : length l.changes.items ≡ l.number-index;
  each : (k : ℕ) (change : Amounts) → slice_get l.changes.items k ≡ Some change → IsChange l.rules (rule_number l.numbers k) change;
}
