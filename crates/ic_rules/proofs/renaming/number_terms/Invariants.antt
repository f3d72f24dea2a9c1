use Rattle.std.proofs.Common.{◌≡◌, map, take}
use Rattle.ic_term.specs.Term.{tree}
use Rattle.ic_rules.specs.Renaming.{renamed, number_among}
use Rattle.ic_rules.proofs.renaming.number_terms.Given as goal

-- those so far are numbered
abbrev pub invariant-loop-term : goal.invariant-loop-term
invariant-loop-term l =
    map tree l.numbered.items ≡ map (renamed (number_among l.firsts)) (map tree (take l.term-index l.terms))
