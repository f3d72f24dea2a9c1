use Rattle.std.proofs.Common.{◌+◌, ◌*◌, length}
use Rattle.std.specs.List.{AllByRecursion}
use Rattle.ic_flat_round.specs.inner.Waits.{waiting, AreWithin}
use Rattle.ic_flat_round.specs.inner.Rebuilding.{IsSpan, PutsOn, span_terms, state, on_stack, effort}
use Rattle.ic_flat_round.proofs.rebuilding.put_terms.Given as goal

-- what is written so far, with what is left, is what the whole gives
abbrev pub invariant-loop-rest : goal.invariant-loop-rest
invariant-loop-rest l = record {
  span : IsSpan l.words l.span;
  stack : AllByRecursion (IsSpan l.words) l.stack.items;
  within : AreWithin l.words l.bound.entries;
  puts :
      PutsOn (state (waiting l.words l.fn.bound.entries) l.fn.out.items (span_terms l.words l.fn.span))
      (on_stack l.words l.bound.entries l.out.items l.span l.stack.items);
}

-- what is left to do, and the spans that wait
abbrev pub decreases-loop-rest : goal.decreases-loop-rest
decreases-loop-rest l = 2 * effort (on_stack l.words l.bound.entries l.out.items l.span l.stack.items) + length l.stack.items
