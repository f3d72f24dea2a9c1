use Rattle.std.proofs.Common.{◌≡◌, ℕ, ◌+◌, ◌≤◌, List, map, length, reverse, take, drop}
use Rattle.std.specs.List.{flat_map}
use Rattle.ic_flat.specs.Words.{forest, word_names}
use Rattle.ic_machine.specs.Plan.{made_of}
use Rattle.ic_plans.specs.inner.Flattening.{WouldBeFlat}
use Rattle.ic_plans.proofs.flattening.flatten.Given as goal

-- the words from here on
abbrev pub invariant-loop-i : goal.invariant-loop-i
invariant-loop-i l = record {
  count : length l.operands.items ≡ length (forest (drop l.i l.words));
  few : length l.makes.items + l.i + length (flat_map word_names (drop l.i l.words)) ≤ length l.words;
  left : l.left ≡ length (flat_map word_names (take l.i l.words));
  flat : (arities : List ℕ) (registers : ℕ → ℕ) → l.reads ≡ map registers (flat_map word_names l.words)
      → WouldBeFlat arities registers l.first (drop l.i l.words) (map made_of l.makes.items) (reverse l.operands.items);
}
