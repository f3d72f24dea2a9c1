use Rattle.std.proofs.Common.{◌≡◌, ◌++◌, take}
use Rattle.std.specs.List.{flat_map}
use Rattle.ic_state.specs.Numbers.{eight_bytes}
use Rattle.ic_state.proofs.fields.put_numbers.Given as goal

-- so many have been appended
abbrev pub invariant-loop-number : goal.invariant-loop-number
invariant-loop-number l = l.out.items ≡ l.fn.out.items ++ flat_map eight_bytes (take l.number-index l.numbers)
