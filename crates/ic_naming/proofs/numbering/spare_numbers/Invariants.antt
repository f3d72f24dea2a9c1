use Rattle.std.proofs.Common.{◌≡◌, not, filter}
use Rattle.std.specs.List.{range_with_len}
use Rattle.ic_naming.specs.Naming.{is_kept}
use Rattle.ic_naming.proofs.numbering.spare_numbers.Given as goal

-- those of the numbers so far
abbrev pub invariant-loop-number : goal.invariant-loop-number
invariant-loop-number l = l.spare.items ≡ filter (λ n. not (is_kept l.names n)) (range_with_len 0 l.number)
