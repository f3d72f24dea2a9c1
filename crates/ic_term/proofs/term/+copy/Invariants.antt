use Rattle.std.proofs.Common.{◌≡◌, map, take}
use Rattle.ic_term.specs.Term.{tree}
use Rattle.ic_term.proofs.term.+copy.Given as goal

-- the arguments so far are copied
abbrev pub invariant-Cell::copy-loop-term : goal.invariant-Cell::copy-loop-term
invariant-Cell::copy-loop-term l = map tree l.args.items ≡ map tree (take l.term-index l.term-items)
