use Rattle.std.proofs.Common.{◌≡◌, ℕ, ◌≤◌, take, drop, unwrap_or}
use Rattle.ic_names.specs.Table.{found}
use Rattle.ic_term.specs.Configuration.{occurrences, third_from, third_occurrence}
use Rattle.ic_term.proofs.occurrences.third_occurrence.Given as goal

-- the table counts each name seen so far, none of them more than twice, and the search goes on from there
abbrev pub invariant-loop-name : goal.invariant-loop-name
invariant-loop-name l =
    ((n : ℕ) → unwrap_or (found l.counts n) 0 ≡ occurrences n (take l.name-index l.names))
    × ((n : ℕ) → occurrences n (take l.name-index l.names) ≤ 2)
    × (third_from (take l.name-index l.names) (drop l.name-index l.names) ≡ third_occurrence l.names)
