use Rattle.std.proofs.Common.{◌≡◌, ◌-◌, ◌++◌, length, take}
use Rattle.std.specs.List.{flat_map, AllByRecursion}
use Rattle.ic_state.specs.Words.{word_bytes, IsKeptWord}
use Rattle.ic_state.proofs.words.put_groups.Given as goal

-- so many have been appended
abbrev pub invariant-loop-place : goal.invariant-loop-place
invariant-loop-place g l = record {
  appended : l.out.items ≡ l.fn.out.items ++ flat_map (word_bytes l.narrow) (take l.place l.words);
  kept : AllByRecursion (IsKeptWord l.narrow) (take l.place l.words);
}

abbrev pub decreases-loop-place : goal.decreases-loop-place
decreases-loop-place g l = length l.words - l.place
