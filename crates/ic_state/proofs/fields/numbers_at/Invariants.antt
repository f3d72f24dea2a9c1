use Rattle.std.proofs.Common.{◌≡◌, ◌<◌, ◌^◌, ◌++◌, length}
use Rattle.std.specs.List.{flat_map, AllByRecursion}
use Rattle.ic_state.specs.Numbers.{eight_bytes}
use Rattle.ic_state.proofs.fields.numbers_at.Given as goal

-- so many have been read
abbrev pub invariant-loop : goal.invariant-loop
invariant-loop l = record {
  count : length l.numbers.items ≡ l.counter;
  read : l.bytes ≡ flat_map eight_bytes l.numbers.items ++ l.rest;
  small : AllByRecursion (λ n. n < 2 ^ 64) l.numbers.items;
}
