use Rattle.std.proofs.Common.{◌≡◌, ℕ, ◌-◌, ◌≤◌, length}
use Rattle.ic_settle.specs.lemmas.Containers.{noted_equations}
use Rattle.ic_flat_rules.specs.Standing.{pairs_at, AreInTwos}
use Rattle.ic_flat_round.specs.inner.Places.{found}
use Rattle.ic_flat_round.proofs.containers.note_equations.Given as goal

-- what is noted so far, with what is left, is what the whole gives
abbrev pub invariant-loop-place : goal.invariant-loop-place
invariant-loop-place l = record {
  noted : (y : ℕ) → noted_equations y l.number (pairs_at l.words l.place) (found l.places y) ≡ noted_equations y 0 (pairs_at l.words l.from) (found l.fn.places y);
  twos : AreInTwos l.words l.place;
  within : l.place ≤ length l.words;
  few : l.number ≤ l.place;
}

abbrev pub decreases-loop-place : goal.decreases-loop-place
decreases-loop-place l = length l.words - l.place
