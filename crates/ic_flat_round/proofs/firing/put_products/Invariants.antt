use Rattle.std.proofs.Common.{◌≡◌, ◌≤◌, drop, length}
use Rattle.ic_flat.specs.Words.{forest}
use Rattle.ic_flat_round.specs.inner.Room.{GoesOn}
use Rattle.ic_flat_round.specs.inner.RuleWords.{against_words}
use Rattle.ic_flat_round.proofs.firing.put_products.Given as goal

-- so many are due, and their products are left
abbrev pub invariant-loop-due : goal.invariant-loop-due
invariant-loop-due l = record {
  there : l.due ≤ length (forest (drop l.place l.words));
  terms_there : l.due ≤ length (forest (drop l.from l.template));
  rest : drop l.due (forest (drop l.from l.template)) ≡ drop l.fn.count (forest (drop l.fn.from l.template));
  left :
      GoesOn l.fn.out (against_words l.base l.fn.count (forest (drop l.fn.place l.words)) (forest (drop l.fn.from l.template)))
      l.out (against_words l.base l.due (forest (drop l.place l.words)) (forest (drop l.from l.template)));
}

abbrev pub decreases-loop-due : goal.decreases-loop-due
decreases-loop-due l = l.due
