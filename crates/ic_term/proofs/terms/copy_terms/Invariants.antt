use Rattle.std.proofs.Common.{◌≡◌, map, take}
use Rattle.ic_term.specs.Term.{tree}
use Rattle.ic_term.proofs.terms.copy_terms.Given as goal

-- those so far are copied
abbrev pub invariant-loop-term : goal.invariant-loop-term
invariant-loop-term l = map tree l.copies.items ≡ map tree (take l.term-index l.terms)
