use Rattle.std.proofs.Common.{◌≡◌, ◌||◌, ℕ, length}
use Rattle.std.specs.List.{list_any}
use Rattle.std.specs.BTreeSet.{contains}
use Rattle.ic_expand.specs.Pieces.{pieces}
use Rattle.ic_expand.specs.Reading.{heads, pairs_of}
use Rattle.ic_expand.specs.inner.Ahead.{sides_of}
use Rattle.ic_expand.specs.inner.Given.{is_at, place_cmp}
use Rattle.ic_expand.proofs.given.given_of.Given as goal

-- a rule that isn't found yet is given in what is left
abbrev pub invariant-loop-rest : goal.invariant-loop-rest
invariant-loop-rest l = record {
  sides : l.sides.items ≡ sides_of l.known l.rest;
  found : (i j : ℕ) → (contains place_cmp l.given (i, j) || list_any (is_at l.known i j) (heads l.spot (pieces l.rest))) ≡ list_any (is_at l.known i j) (pairs_of (pieces l.text));
}

abbrev pub decreases-loop-rest : goal.decreases-loop-rest
decreases-loop-rest l = length l.rest
