use Rattle.std.proofs.Common.{true, take}
use Rattle.std.specs.List.{AllByRecursion}
use Rattle.ic_state.specs.Words.{IsKeptWord}
use Rattle.ic_state.proofs.words.are_narrow.Given as goal

-- so many have numbers
abbrev pub invariant-loop-word : goal.invariant-loop-word
invariant-loop-word l = AllByRecursion (IsKeptWord true) (take l.word-index l.words)
