use Rattle.std.proofs.Common.{◌≡◌, drop, map, take}
use Rattle.ic_term.specs.Term.{tree}
use Rattle.ic_reference.specs.inner.Placing.{placed_terms, held_tree}
use Rattle.ic_reference.proofs.Placed.{put_after}
use Rattle.ic_reference.proofs.substitution.put_in_terms.Given as goal

-- what is done, and what is left with what is now held, are the whole
abbrev pub invariant-loop-term : goal.invariant-loop-term
invariant-loop-term l =
    put_after (map tree (take l.term-index l.term-items)) (placed_terms l.name (held_tree l.held) (map tree (drop l.term-index l.term-items)))
    ≡ placed_terms l.name (held_tree l.fn.held) (map tree l.fn.terms)
