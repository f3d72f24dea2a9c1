use Rattle.std.proofs.Common.{◌≡◌, ◌+◌, ◌-◌, ◌≤◌, true, length}
use Rattle.std.specs.Prelude.{vec_len}
use Rattle.std.specs.List.{list_all}
use Rattle.ic_term.specs.Symbol.{is_pair_over}
use Rattle.ic_term.specs.declared.limits.TheConstants.{MAX_NEXT}
use Rattle.ic_round.specs.Firing.{fired_from, next_after}
use Rattle.ic_flat_round.specs.inner.Limits.{IsRoomy}
use Rattle.ic_flat_round.specs.inner.Room.{GoesOnTo}
use Rattle.ic_flat_rules.specs.RuleWords.{pairs_words}
use Rattle.ic_flat_rules.specs.Standing.{pairs_at, AreInTwos}
use Rattle.ic_flat_round.proofs.fired.put_equations.Given as goal

-- what the equations left give when they are fired is left
abbrev pub invariant-loop-place : goal.invariant-loop-place
invariant-loop-place l = record {
  within : l.place ≤ length l.words;
  twos : AreInTwos l.words l.place;
  over : list_all (is_pair_over l.rules.symbols) (pairs_at l.words l.place) ≡ true;
  roomy : IsRoomy l.out;
  low : l.next ≤ MAX_NEXT;
  few : l.equations ≤ vec_len l.out;
  names : next_after l.rules.rules l.next (pairs_at l.words l.place) ≡ next_after l.rules.rules l.fn.next (pairs_at l.words l.fn.place);
  counted : l.equations + length (fired_from l.rules.rules l.next (pairs_at l.words l.place)) ≡ length (fired_from l.rules.rules l.fn.next (pairs_at l.words l.fn.place));
  left :
      GoesOnTo l.fn.out (pairs_words (fired_from l.rules.rules l.fn.next (pairs_at l.words l.fn.place)))
      l.out (pairs_words (fired_from l.rules.rules l.next (pairs_at l.words l.place)));
}

abbrev pub decreases-loop-place : goal.decreases-loop-place
decreases-loop-place l = length l.words - l.place
