use Rattle.std.proofs.Common.{◌≡◌, ◌+◌, ◌-◌, ◌≤◌, length, map}
use Rattle.std.specs.Prelude.{vec_len, vec_capacity}
use Rattle.std.specs.List.{AllByRecursion}
use Rattle.ic_settle.specs.lemmas.Containers.{IsLinked, AreUnlinkedFrom, AreKnown}
use Rattle.ic_flat_rules.specs.Standing.{pairs_at, AreInTwos}
use Rattle.ic_flat_round.specs.inner.Waits.{waiting, AreWithin, IsKeptWithin, kept_at}
use Rattle.ic_flat_round.specs.inner.Places.{found}
use Rattle.ic_flat_round.proofs.PassingWords.{IsPassingAt}
use Rattle.ic_flat_round.proofs.pass.pass.Given as goal

-- the slow settling is on its way, the containers are sound, and there is room for all equations that may stay
abbrev pub invariant-loop-place : goal.invariant-loop-place
invariant-loop-place l = record {
  at : l.place ≤ length l.words;
  twos : AreInTwos l.words l.place;
  linked : IsLinked l.containers.links.items;
  size : length l.containers.links.items ≡ length l.flat.equations + 1;
  free : AreUnlinkedFrom l.number l.containers.links.items;
  known : AreKnown l.containers.links.items (found l.containers.places);
  within : AreWithin l.words l.bound.entries;
  kept : AllByRecursion (IsKeptWithin l.words) l.kept.items;
  passing :
      IsPassingAt l.flat (map (kept_at l.words) l.kept.items) (waiting l.words l.bound.entries) l.containers.links.items (found l.containers.places) l.number
      (pairs_at l.words l.place);
  few : vec_len l.kept ≤ l.number;
  room : length l.flat.equations ≤ vec_capacity l.kept;
}

abbrev pub decreases-loop-place : goal.decreases-loop-place
decreases-loop-place l = length l.words - l.place
