use Rattle.std.proofs.Common.{◌≡◌, drop}
use Rattle.ic_expand.specs.inner.Ahead.{side, sides_of}
use Rattle.ic_expand.proofs.ahead.sides_of.Given as goal

-- what is found is that of the text from this place on
abbrev pub invariant-loop-place : goal.invariant-loop-place
invariant-loop-place l = record {
  side : l.side ≡ side l.known (drop l.place l.text);
  sides : l.sides.items ≡ sides_of l.known (drop l.place l.text);
}
