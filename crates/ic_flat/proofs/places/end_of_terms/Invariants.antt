use Rattle.ic_flat.specs.Flat.{IsAfterTerms}
use Rattle.ic_flat.proofs.places.end_of_terms.Given as goal

-- so many terms were passed
abbrev pub invariant-loop : goal.invariant-loop
invariant-loop l = IsAfterTerms l.words l.counter l.end
