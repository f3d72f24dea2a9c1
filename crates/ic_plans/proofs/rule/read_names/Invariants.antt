use Rattle.std.proofs.Common.{◌≡◌, ◌++◌, drop, map}
use Rattle.std.specs.List.{flat_map}
use Rattle.ic_flat.specs.Words.{word_names}
use Rattle.ic_plans.specs.inner.Registers.{register_of}
use Rattle.ic_plans.proofs.rule.read_names.Given as goal

-- the registers so far and those of what is left are those of all
abbrev pub invariant-loop-word : goal.invariant-loop-word
invariant-loop-word l = l.reads.items ++ map (register_of l.registers) (flat_map word_names (drop l.word-index l.words)) ≡ map (register_of l.registers) (flat_map word_names l.words)
