use Rattle.std.proofs.Common.{◌≡◌, [], drop, map}
use Rattle.ic_flat.specs.Flat.{sides}
use Rattle.ic_flat_round.specs.inner.Waits.{waiting, AreWithin, kept_at}
use Rattle.ic_flat_round.specs.inner.Rebuilding.{PutsOn, state}
use Rattle.ic_flat_round.proofs.rebuilding.put_equations.Given as goal

-- the equations so far are written
abbrev pub invariant-loop-equation : goal.invariant-loop-equation
invariant-loop-equation l = record {
  within : AreWithin l.words l.bound.entries;
  empty : l.stack.items ≡ [];
  puts :
      PutsOn (state (waiting l.words l.fn.bound.entries) l.fn.out.items (sides (map (kept_at l.words) l.kept)))
      (state (waiting l.words l.bound.entries) l.out.items (sides (map (kept_at l.words) (drop l.equation-index l.kept))));
}
