use Rattle.std.proofs.Common.{◌<◌, length}
use Rattle.ic_settle.specs.lemmas.Delays.{ResolvesSoFar}
use Rattle.ic_settle.specs.lemmas.Waiting.{nodes_kept}
use Rattle.ic_flat_rules.specs.Standing.{tree_at}
use Rattle.ic_flat_round.specs.inner.Waits.{waiting, AreWithin}
use Rattle.ic_flat_round.proofs.bound.resolved.Given as goal

-- what stands at the place so far stands for the given term
abbrev pub invariant-loop-place : goal.invariant-loop-place
invariant-loop-place l = record {
  there : l.place < length l.words;
  within : AreWithin l.words l.bound.entries;
  so_far : ResolvesSoFar (waiting l.words l.fn.bound.entries) (waiting l.words l.bound.entries) (tree_at l.words l.fn.place) (tree_at l.words l.place);
}

-- the terms that wait
abbrev pub decreases-loop-place : goal.decreases-loop-place
decreases-loop-place l = nodes_kept (waiting l.words l.bound.entries)
