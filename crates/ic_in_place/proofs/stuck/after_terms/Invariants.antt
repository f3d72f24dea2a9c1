use Rattle.std.proofs.Common.{◌≡◌, drop}
use Rattle.ic_flat.specs.Words.{forest}
use Rattle.ic_in_place.proofs.stuck.after_terms.Given as goal

-- so many terms are passed
abbrev pub invariant-loop-term : goal.invariant-loop-term
invariant-loop-term l = forest (drop l.place l.words) ≡ drop l.term (forest l.words)
