use Rattle.std.proofs.Common.{◌≡◌, ◌+◌, ◌≤◌, ◌++◌, drop, length}
use Rattle.std.specs.List.{flat_map}
use Rattle.ic_flat.specs.Words.{word_names}
use Rattle.ic_flat_rules.proofs.ended.push_names.Given as goal

-- the names so far and those of what is left are those of all; each is a word
abbrev pub invariant-loop-word : goal.invariant-loop-word
invariant-loop-word l = record {
  all : l.names.items ++ flat_map word_names (drop l.word-index l.words) ≡ l.fn.names.items ++ flat_map word_names l.words;
  few : length l.names.items ≤ length l.fn.names.items + l.word-index;
}
