use Rattle.std.proofs.Common.{◌≡◌, ◌++◌, map, length}
use Rattle.std.specs.Vec.Iter.{into_iter_items, into_iter_len}
use Rattle.ic_term.specs.Term.{pair}
use Rattle.ic_flat_rules.specs.RuleWords.{pairs_words}
use Rattle.ic_flat_round.proofs.filling.put_made.Given as goal

-- the words so far and those of the equations left are those of all
abbrev pub invariant-loop-equation : goal.invariant-loop-equation
invariant-loop-equation l =
    (into_iter_len l.equation-iterator ≡ length (into_iter_items l.equation-iterator))
    × (l.out.items ++ pairs_words (map pair (into_iter_items l.equation-iterator)) ≡ l.fn.out.items ++ pairs_words (map pair l.fn.equations.items))
