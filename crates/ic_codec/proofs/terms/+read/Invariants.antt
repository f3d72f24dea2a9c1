use Rattle.std.proofs.Common.{map, ◌+◌, ◌*◌}
use Rattle.ic_term.specs.Term.{tree}
use Rattle.ic_codec.specs.inner.Fronts.{BeginsWithTrees}
use Rattle.ic_codec.proofs.terms.+read.Given as goal

-- A term has an argument less to read than its budget; so many terms are read before one of them.
abbrev pub decreases-term_at : goal.decreases-term_at
decreases-term_at l = 2 * l.budget

abbrev pub decreases-terms_at : goal.decreases-terms_at
decreases-terms_at l = 2 * l.budget + 1

-- so many terms have been read
abbrev pub invariant-terms_at-loop : goal.invariant-terms_at-loop
invariant-terms_at-loop l = BeginsWithTrees l.symbols l.counter l.budget l.bytes (map tree l.terms.items) l.left l.rest
