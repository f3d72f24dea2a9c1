use Rattle.std.proofs.Common.{◌≡◌, map, take}
use Rattle.ic_term.specs.Term.{tree}
use Rattle.ic_rules.specs.Renaming.{renamed, number_among}
use Rattle.ic_rules.proofs.renaming.+number.Given as goal

-- the arguments so far are numbered
abbrev pub invariant-number_cell-loop-term : goal.invariant-number_cell-loop-term
invariant-number_cell-loop-term l =
    map tree l.args.items ≡ map (renamed (number_among l.firsts)) (map tree (take l.term-index l.term-items))
