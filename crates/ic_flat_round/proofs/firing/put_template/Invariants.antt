use Rattle.std.proofs.Common.{◌-◌, length, map}
use Rattle.ic_flat_round.specs.inner.Room.{GoesOn}
use Rattle.ic_flat_round.specs.inner.RuleWords.{raised_word, raised_words}
use Rattle.ic_flat_rules.specs.Standing.{tree_at}
use Rattle.ic_flat_round.proofs.DueWords.{IsDue, due_words}
use Rattle.ic_flat_round.proofs.firing.put_template.Given as goal

-- the words of the terms that are due are left
abbrev pub invariant-loop-due : goal.invariant-loop-due
invariant-loop-due l = record {
  due : IsDue l.template l.from l.until l.due;
  left : GoesOn l.fn.out (raised_words l.base (tree_at l.template l.from)) l.out (map (raised_word l.base) (due_words l.template l.until l.due));
}

abbrev pub decreases-loop-due : goal.decreases-loop-due
decreases-loop-due l = length l.template - l.until
