use Rattle.std.proofs.Common.{◌≡◌, ◌++◌, length}
use Rattle.std.specs.List.{flat_map, AllByRecursion}
use Rattle.ic_state.specs.Words.{word_bytes, IsKeptWord}
use Rattle.ic_state.proofs.words.words_at.Given as goal

-- so many have been read
abbrev pub invariant-loop : goal.invariant-loop
invariant-loop l = record {
  count : length l.words.items ≡ l.counter;
  read : l.bytes ≡ flat_map (word_bytes l.narrow) l.words.items ++ l.rest;
  kept : AllByRecursion (IsKeptWord l.narrow) l.words.items;
}
