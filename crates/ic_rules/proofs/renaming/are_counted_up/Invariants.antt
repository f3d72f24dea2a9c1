use Rattle.std.proofs.Common.{◌≡◌, ◌≤◌, take}
use Rattle.std.specs.List.{range_with_len}
use Rattle.ic_rules.specs.Renaming.{first_occurrences}
use Rattle.ic_rules.proofs.renaming.are_counted_up.Given as goal

-- the names so far are 0, 1, .. up to the next one
abbrev pub invariant-loop-name : goal.invariant-loop-name
invariant-loop-name l = (first_occurrences (take l.name-index l.names) ≡ range_with_len 0 l.next) × (l.next ≤ l.name-index)
