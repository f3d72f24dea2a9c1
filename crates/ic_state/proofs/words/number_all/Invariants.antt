use Rattle.std.proofs.Common.{◌≡◌, ◌≤◌, length, map, take}
use Rattle.std.specs.List.{AllByRecursion}
use Rattle.ic_state.specs.Words.{word_bytes, IsKeptWord}
use Rattle.ic_state.proofs.words.number_all.Given as goal

-- so many have their numbers, and there is room for the rest
abbrev pub invariant-loop-word : goal.invariant-loop-word
invariant-loop-word g l = record {
  numbers : l.numbers.items ≡ map (word_bytes l.narrow) (take l.word-index l.words);
  kept : AllByRecursion (IsKeptWord l.narrow) (take l.word-index l.words);
  count : l.numbers.len ≡ l.word-index;
  room : length l.words ≤ l.numbers.cap;
}
