use Rattle.std.proofs.Common.{◌≡◌, map, option_map, length}
use Rattle.std.specs.Vec.Iter.{into_iter_items, into_iter_len}
use Rattle.ic_term.specs.Term.{pair}
use Rattle.ic_round.specs.WorkViews.{work_of}
use Rattle.ic_round.specs.lemmas.Separating.{Separates}
use Rattle.ic_reference.proofs.separation.separate.Given as goal

-- what is taken out so far, and what the equations left give
abbrev pub invariant-loop-equation : goal.invariant-loop-equation
invariant-loop-equation l =
    (into_iter_len l.equation-iterator ≡ length (into_iter_items l.equation-iterator))
    × Separates l.rules.rules l.next (map pair l.fn.equations.items) (map work_of l.works.items) (map (option_map pair) l.kept.items) l.base (map pair (into_iter_items l.equation-iterator))
