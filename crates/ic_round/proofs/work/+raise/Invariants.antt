use Rattle.std.proofs.Common.{◌≡◌, ◌+◌, map, min, take}
use Rattle.ic_term.specs.Term.{tree}
use Rattle.ic_rules.specs.Renaming.{renamed}
use Rattle.ic_round.specs.lemmas.Words.{u64_MAX}
use Rattle.ic_round.proofs.work.+raise.Given as goal

-- the arguments so far are raised
abbrev pub invariant-raised_cell-loop-term : goal.invariant-raised_cell-loop-term
invariant-raised_cell-loop-term l =
    map tree l.args.items ≡ map (renamed (λ k. min (l.base + k) u64_MAX)) (map tree (take l.term-index l.term-items))
