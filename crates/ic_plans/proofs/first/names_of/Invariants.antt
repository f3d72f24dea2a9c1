use Rattle.std.proofs.Common.{◌≡◌, ◌++◌, drop}
use Rattle.std.specs.List.{flat_map}
use Rattle.ic_flat.specs.Words.{word_names}
use Rattle.ic_plans.proofs.first.names_of.Given as goal

-- the names so far and those of what is left are those of all
abbrev pub invariant-loop-word : goal.invariant-loop-word
invariant-loop-word l = l.names.items ++ flat_map word_names (drop l.word-index l.words) ≡ flat_map word_names l.words
