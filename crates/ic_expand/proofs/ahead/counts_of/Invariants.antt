use Rattle.std.proofs.Common.{◌≡◌, drop, reverse}
use Rattle.ic_expand.specs.inner.Ahead.{counts_of, levels}
use Rattle.ic_expand.proofs.ahead.counts_of.Given as goal

-- what is found is that of the text from this place on
abbrev pub invariant-loop-place : goal.invariant-loop-place
invariant-loop-place l = record {
  levels : reverse l.levels.items ≡ levels (drop l.place l.text);
  counts : l.counts.items ≡ counts_of (drop l.place l.text);
}
