use Rattle.std.proofs.Common.{◌≡◌, map, drop, take}
use Rattle.ic_term.specs.Term.{tree}
use Rattle.ic_flat.specs.inner.Stacks.{upright}
use Rattle.ic_flat.proofs.reading.take_terms.Given as goal

abbrev pub invariant-loop : goal.invariant-loop
invariant-loop l = record {
  taken : map tree l.terms.items ≡ take l.counter (upright l.fn.stack.items);
  left : upright l.stack.items ≡ drop l.counter (upright l.fn.stack.items);
}
