use Rattle.std.proofs.Common.{◌≡◌, ◌-◌, ◌^◌, ◌<◌, min, max, drop}
use Rattle.ic_term.specs.Configuration.{one_above}
use Rattle.ic_term.proofs.config.one_above.Given as goal

-- one above the greatest so far, and one above the greatest of what is left
abbrev pub invariant-loop-name : goal.invariant-loop-name
invariant-loop-name l =
    (min (max l.next (one_above (drop l.name-index l.names))) (2 ^ 64 - 1) ≡ min (one_above l.names) (2 ^ 64 - 1)) × (l.next < 2 ^ 64)
