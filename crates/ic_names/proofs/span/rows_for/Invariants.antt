use Rattle.std.specs.List.{AllByRecursion}
use Rattle.ic_names.specs.inner.Rows.{IsBlank}
use Rattle.ic_names.proofs.span.rows_for.Given as goal

-- those so far have no numbers
abbrev pub invariant-loop-span : goal.invariant-loop-span
invariant-loop-span l = AllByRecursion IsBlank l.rows.items
